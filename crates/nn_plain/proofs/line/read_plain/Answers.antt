use Rattle.std.proofs.Common.{Some, refl, ap, ◌∙◌}
use Rattle.nn_plain.proofs.Lines.{object_line}
use Rattle.nn_plain.proofs.line.read_plain.Goals as goal

pub returns : goal.returns
returns g c = λ over.
    let found = c.if-not-plain_members.ensures refl in
    let value = object_line c.args.line.now c.in-Some.tokens found.0 c.in-Some.ensures (found.1 ∙ ap (λ r. Some (found.0, r)) (c.is_over.ensures over)) in
    (found.0, value, found.2)
