use Rattle.std.proofs.Common.{refl, sym, ◌∙◌, arith}
use Rattle.nn_plain.proofs.TokensLeft.{one_more, blank_within}
use Rattle.nn_plain.proofs.tokens.blanks_end.Goals as goal

pub loop-i-init : goal.loop-i-init
loop-i-init c = record { skips = refl; bound = c.requires }

pub loop-i-preserved : goal.loop-i-preserved
loop-i-preserved c =
    let d = c.args.text.now in
    let here = sym c.byte_at.ensures.value ∙ c.loop-i-test.true in
    record { skips = one_more d c.args.from c.loop-i.i here c.loop-i.invariant.skips; bound = omega (arith, blank_within d c.loop-i.i here) }
