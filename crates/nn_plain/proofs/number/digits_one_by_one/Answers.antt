use Rattle.std.proofs.Common.{refl, arith}
use Rattle.nn_plain.proofs.Digits.{none_read, one_read}
use Rattle.nn_plain.proofs.number.digits_one_by_one.Goals as goal

pub loop-i-init : goal.loop-i-init
loop-i-init c = record { so_far = none_read c.args.text.now c.args.from; bound = (omega arith, c.requires); small = omega arith }

pub loop-i-preserved : goal.loop-i-preserved
loop-i-preserved c =
    let inv = c.loop-i.invariant in
    record {
      so_far = one_read c.args.text.now c.args.from c.loop-i.i c.loop-i.n _ inv.bound.0 c.loop-i-test.true c.if-text-i-ge48.true c.if-text-i-le57.true refl inv.so_far;
      bound = (omega (arith, inv.bound.0), omega (arith, c.loop-i-test.true));
      small = omega (arith, c.if-n-lt1000000000000000000.true, c.if-text-i-ge48.true, c.if-text-i-le57.true);
    }
