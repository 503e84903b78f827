use Rattle.std.proofs.Common.{refl, sym, inl, inr, ◌∙◌}
use Rattle.nn_plain.proofs.TokensLeft.{one_more}
use Rattle.nn_plain.proofs.tokens.after_blanks.Goals as goal

pub returns-then-byte_at-ne32-clause-first : goal.returns-then-byte_at-ne32-clause-first
returns-then-byte_at-ne32-clause-first c = inl refl

pub returns-clause-first : goal.returns-clause-first
returns-clause-first c = inr (sym c.byte_at.ensures.value ∙ c.if-byte_at-ne32.false)

pub returns-clause-skips : goal.returns-clause-skips
returns-clause-skips c =
    let here = sym c.byte_at.ensures.value ∙ c.if-byte_at-ne32.false in
    one_more c.args.text.now c.args.from c.args.from here refl ∙ c.blanks_end.ensures.skips

pub returns-then-byte_at-ne32-2-clause-skips : goal.returns-then-byte_at-ne32-2-clause-skips
returns-then-byte_at-ne32-2-clause-skips c =
    one_more c.args.text.now c.args.from c.args.from (sym c.byte_at.ensures.value ∙ c.if-byte_at-ne32.false) refl

pub returns-then-byte_at-ne32-2-clause-first : goal.returns-then-byte_at-ne32-2-clause-first
returns-then-byte_at-ne32-2-clause-first c = inr (sym c.byte_at.ensures.value ∙ c.if-byte_at-ne32.false)
