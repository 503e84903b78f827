use Rattle.std.proofs.Common.{◌≡◌, ◌-◌, take, drop, ap, ◌∙◌, arith}
use lib.Lanes.{number_l}
use Rattle.std.proofs.Math.Nat.{one-le-pow}
use Rattle.nn_plain.proofs.KeyWords.{none_left, one_more, fits_more, small_more, key_begins}
use Rattle.nn_plain.proofs.word.word_of.Goals as goal

pub loop-i-init : goal.loop-i-init
loop-i-init c =
    record {
      value = none_left c.args.key.now c.min-i.result c.min-i.ensures;
      bound = omega (arith, c.min-i.ensures);
      small = omega (arith, one-le-pow (8 - c.min-i.result) 256 (omega arith));
    }

pub overflow_mul-word : goal.overflow_mul-word
overflow_mul-word c = record { fits = omega (arith, fits_more c.loop-i.i c.loop-i.word c.loop-i-test.true c.loop-i.invariant.small) }

pub loop-i-preserved : goal.loop-i-preserved
loop-i-preserved c =
    let inv = c.loop-i.invariant in
    record {
      value = one_more c.args.key.now c.loop-i.i c.loop-i.word c.loop-i-test.true inv.bound inv.value;
      bound = omega (arith, inv.bound);
      small = small_more c.loop-i.i c.loop-i.word _ c.loop-i-test.true (omega (arith, inv.bound)) inv.small (c.type_inv.key (c.loop-i.i - 1)).fits;
    }

pub returns : goal.returns
returns c = λ short.
    let first : c.loop-i.i ≡ 0 = omega (arith, c.loop-i-test.false) in
    let whole : c.loop-i.word ≡ number_l 256 (take 8 c.args.key.now) = c.loop-i.invariant.value ∙ ap (λ i. number_l 256 (drop i (take 8 c.args.key.now))) first in
    key_begins c.args.key.now c.loop-i.word (λ i. (c.type_inv.key i).fits) short whole
