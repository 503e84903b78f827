use Rattle.std.proofs.Common.{true, sym, inl, refl, ◌∙◌}
use Rattle.nn_plain.proofs.TokensLeft.{open_left}
use Rattle.nn_plain.proofs.tokens.Tokens.of_object.Goals as goal

pub returns : goal.returns
returns c =
    let there = sym c.byte_at.ensures.value ∙ c.if-byte_at-ne123.false in
    open_left true c.args.text.now 0 0 c.after_blanks.result (inl (refl, refl)) there c.after_blanks.ensures.skips
