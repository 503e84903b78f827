use Rattle.std.proofs.Common.{◌≡◌, true, false, sym, ◌∙◌}
use Rattle.std.proofs.lemmas.Slice.Eq.{bytes_eq-Decides}
use Rattle.nn_edits.proofs.Likely.{kind_found, no_kind}
use Rattle.nn_edits.proofs.report.kind_of.Goals as goal

pub returns-then-eq : goal.returns-then-eq
returns-then-eq c =
    let same = (bytes_eq-Decides c.args.word.now c.word.result.now).0 (sym c.eq.ensures ∙ c.if-eq.true) in
    kind_found c.args.word.now c.kind_like-kind.result (same ∙ c.word.ensures)

pub returns-else-eq : goal.returns-else-eq
returns-else-eq c =
    no_kind c.args.word.now c.kind_like-kind.result c.kind_like-kind.ensures (λ is.
    let same = (bytes_eq-Decides c.args.word.now c.word.result.now).1 (is ∙ sym c.word.ensures) in
    let clash : true ≡ false = sym same ∙ sym c.eq.ensures ∙ c.if-eq.false in
    absurd (cc))
