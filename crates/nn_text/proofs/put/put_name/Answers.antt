use Rattle.std.proofs.Common.{rules, ◌≡◌, ◌<◌, ◌+◌, ◌++◌, ◌∙◌, drop, length, sym, subst}
use Rattle.json.specs.Print.{escape, escape_byte}
use Rattle.nn_device.specs.Page.{HasPut, PutsAllBut}
use Rattle.nn_device.proofs.Pages.{next_of}
use Rattle.nn_text.proofs.PlainNames.{escape_plain}
use Rattle.nn_text.proofs.put.put_name.Goals as goal

pub returns-then-is_plain : goal.returns-then-is_plain
returns-then-is_plain g c = λ start text h.
    subst (λ t. HasPut start (text ++ t) c.put.new.self c.put.new.writer) (sym (escape_plain c.args.name.now (sym c.is_plain.ensures ∙ c.if-is_plain.true)))
    (subst (λ t. HasPut start (text ++ t) c.put.new.self c.put.new.writer) c.as_bytes.ensures.value (c.put.ensures start text h))

pub loop-b-preserved : goal.loop-b-preserved
loop-b-preserved g c =
    let bytes = c.as_bytes-b-items.result.now in
    let same : bytes ≡ c.args.name.now = c.as_bytes-b-items.ensures.value in
    let i = c.loop-b.b-index in
    subst (λ xs. PutsAllBut (escape xs) (escape (drop (i + 1) xs)) c.args.page.now c.args.writer.now c.put_byte.new.page c.put_byte.new.writer) same
    (next_of escape_byte bytes i 0 c.args.page.now c.loop-b.page c.put_byte.new.page c.args.writer.now c.loop-b.writer c.put_byte.new.writer
    (subst (λ xs. i < length xs) (sym same) (search rules))
    (subst (λ xs. PutsAllBut (escape xs) (escape (drop i xs)) c.args.page.now c.args.writer.now c.loop-b.page c.loop-b.writer) (sym same) c.loop-b.invariant) c.put_byte.ensures)
