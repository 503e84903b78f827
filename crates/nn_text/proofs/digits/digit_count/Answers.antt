use Rattle.std.proofs.Common.{arith}
use Rattle.std.proofs.lemmas.Fmt.{length-decimal-le}
use Rattle.nn_text.proofs.Numbers.{four_fewer, none_yet}
use Rattle.nn_text.proofs.digits.digit_count.Goals as goal

pub fours-init : goal.fours-init
fours-init c = record { all = none_yet c.args.number; few = length-decimal-le 20 c.args.number (omega arith) (omega (arith, c.ranges.number.fits)) c.ranges.number.fits }

pub fours-preserved : goal.fours-preserved
fours-preserved c = record {
  all = four_fewer c.fours.rest c.fours.count _ c.fours-test.true c.fours.auto.rest-fits.fits c.fours.invariant.all;
  few = c.fours.invariant.few;
}
