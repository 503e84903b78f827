use Rattle.std.proofs.Common.{◌≡◌, true, false, length, get_or, sym, ◌∙◌}
use Rattle.std.proofs.lemmas.Slice.Eq.{bytes_eq-Decides}
use Rattle.nn_edits.specs.Likely.{op_like}
use Rattle.nn_edits.proofs.Likely.{op_found, no_op}
use Rattle.nn_edits.proofs.reading.op_of.Goals as goal

pub returns-then-eq : goal.returns-then-eq
returns-then-eq c =
    let same = (bytes_eq-Decides c.args.name.now c.op_text.result.now).0 (sym c.eq.ensures ∙ c.if-eq.true) in
    op_found c.args.name.now c.op_like-op.result (same ∙ c.op_text.ensures)

pub returns-else-eq : goal.returns-else-eq
returns-else-eq c =
    let name = c.args.name.now in
    let may : c.op_like-op.result ≡ op_like (length name) (get_or name 3 0) (get_or name 7 0) =
    c.op_like-op.ensures ∙ (λ i. op_like (length name) (c.letter.ensures i) (c.letter-2.ensures i)) in
    no_op name c.op_like-op.result may (λ is.
    let same = (bytes_eq-Decides name c.op_text.result.now).1 (is ∙ sym c.op_text.ensures) in
    let clash : true ≡ false = sym same ∙ sym c.eq.ensures ∙ c.if-eq.false in
    absurd (cc))
