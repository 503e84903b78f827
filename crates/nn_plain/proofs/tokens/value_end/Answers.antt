use Rattle.std.proofs.Common.{refl, inl}
use Rattle.nn_plain.proofs.TokensLeft.{ends_value}
use Rattle.nn_plain.proofs.tokens.value_end.Goals as goal

pub returns-then-stops_at-clause-ends : goal.returns-then-stops_at-clause-ends
returns-then-stops_at-clause-ends c = ends_value c.args.text.now c.args.end c.args.end refl (inl refl) (c.if-stops_at.ensures refl)

pub returns-clause-ends : goal.returns-clause-ends
returns-clause-ends c =
    let blanks = c.after_blanks-next.ensures in
    ends_value c.args.text.now c.args.end c.after_blanks-next.result blanks.skips blanks.first (c.if-not-stops_at.ensures refl)
