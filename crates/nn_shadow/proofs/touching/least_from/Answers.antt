use Rattle.std.proofs.Common.{arith, sym, ◌∙◌, ◌+◌, ◌-◌, ◌/◌}
use Rattle.std.proofs.lemmas.Bool.{ltb-true, ltb-false}
use Rattle.nn_shadow.proofs.touching.least_from.Goals as goal
use Rattle.nn_shadow.proofs.Quiet.{lt_is}
use Rattle.nn_shadow.proofs.Searching.{below_mid, above_mid, found_at, lowest_none}

pub loop-low-preserved-then-lt : goal.loop-low-preserved-then-lt
loop-low-preserved-then-lt c =
    let inv = c.loop-low.invariant in
    record {
      order = omega (arith, c.loop-low-test.true);
      within = inv.within;
      below = below_mid c.args.ids.now c.requires c.args.from c.loop-low.low c.loop-low.high (c.loop-low.low + (c.loop-low.high - c.loop-low.low) / 2) c.index-ids-mid.result c.index-ids-mid.is
          (omega (arith, c.loop-low-test.true)) (omega (arith, c.loop-low-test.true)) c.loop-low.invariant.within
          (ltb-true c.index-ids-mid.result c.args.from (sym (lt_is c.index-ids-mid.result c.args.from) ∙ sym c.lt.ensures ∙ c.if-lt.true));
      above = inv.above;
    }

pub loop-low-preserved : goal.loop-low-preserved
loop-low-preserved c =
    let inv = c.loop-low.invariant in
    record {
      order = omega (arith, c.loop-low-test.true);
      within = omega (arith, c.loop-low-test.true, c.loop-low.invariant.within);
      below = inv.below;
      above = above_mid c.args.ids.now c.requires c.args.from c.loop-low.low c.loop-low.high (c.loop-low.low + (c.loop-low.high - c.loop-low.low) / 2) c.index-ids-mid.result c.index-ids-mid.is
          (omega (arith, c.loop-low-test.true)) (omega (arith, c.loop-low-test.true)) c.loop-low.invariant.within
          (ltb-false c.index-ids-mid.result c.args.from (sym (lt_is c.index-ids-mid.result c.args.from) ∙ sym c.lt.ensures ∙ c.if-lt.false));
    }

pub returns-then-low-ids : goal.returns-then-low-ids
returns-then-low-ids c = found_at c.args.from c.loop-low.low c.index-ids-low.result c.args.ids.now c.requires c.if-low-ids.true c.loop-low.invariant.below
    (λ k d le. c.loop-low.invariant.above k d (omega (arith, le, c.loop-low-test.false))) c.index-ids-low.is

pub returns : goal.returns
returns c = sym (lowest_none c.args.from c.args.ids.now (λ k d lt. c.loop-low.invariant.below k d (omega (arith, lt, c.if-low-ids.false))))
