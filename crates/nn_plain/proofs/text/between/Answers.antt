use Rattle.std.proofs.Common.{◌+◌, ◌∷◌, ◌++◌, drop, sym, ap, ◌∙◌}
use Rattle.nn_plain.proofs.Quoted.{quoted_text, between_quotes, after_quote}
use Rattle.nn_plain.proofs.text.between.Goals as goal

pub range-requires-clause-start_boundary : goal.range-requires-clause-start_boundary
range-requires-clause-start_boundary c some =
    let bound = c.requires.bound in
    after_quote c.args.text.now c.args.from c.args.stop c.utf8.text c.requires.quotes.0 bound.0 bound.1

pub returns-clause-here : goal.returns-clause-here
returns-clause-here c =
    let d = c.args.text.now in
    let stop = c.args.stop in
    let quotes = c.requires.quotes in
    between_quotes d c.args.from stop quotes.0 quotes.1 c.requires.bound.0 ∙ ap (λ t. 34 ∷ (t ++ 34 ∷ drop (stop + 1) d)) (sym c.range.ensures.value)

pub returns-clause-plain : goal.returns-clause-plain
returns-clause-plain c =
    rw (c.range.ensures.value) (quoted_text c.args.text.now (c.args.from + 1) c.args.stop c.requires.unescaped c.requires.bound.1 c.requires.run)
