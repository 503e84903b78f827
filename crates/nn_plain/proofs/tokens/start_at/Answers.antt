use Rattle.std.proofs.Common.{refl, sym, ◌∙◌, inl, inr}
use Rattle.nn_plain.proofs.tokens.start_at.Goals as goal

pub returns-then-first-clause-begins : goal.returns-then-first-clause-begins
returns-then-first-clause-begins c = inl (c.if-first.true, refl)

pub returns-clause-begins : goal.returns-clause-begins
returns-clause-begins c = inr (c.if-first.false, sym c.byte_at.ensures.value ∙ c.if-byte_at-ne44.false, c.after_blanks.ensures.skips)
