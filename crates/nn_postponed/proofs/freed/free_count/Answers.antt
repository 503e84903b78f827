use Rattle.std.proofs.Common.{arith, ◌∙◌, sym}
use Rattle.nn_postponed.specs.Release.{due_at}
use Rattle.nn_postponed.proofs.freed.free_count.Goals as goal
use Rattle.nn_postponed.proofs.freed.free_count.Goals.{then-goes, else-goes}
use Rattle.nn_postponed.proofs.Passes.{one_goes, one_stays, hole_passed}

pub loop-place-preserved-in_default : goal.loop-place-preserved-in_default
loop-place-preserved-in_default c = record {
  count = c.loop-place.invariant.count ∙ sym (hole_passed (due_at c.args.block c.args.status) c.args.messages.now c.loop-place.place _ c.loop-place-test.true c.in_default.is);
  low = omega (arith, c.loop-place.invariant.low);
}

pub loop-place-preserved : goal.loop-place-preserved
loop-place-preserved c =
    let due = due_at c.args.block c.args.status in
    let xs = c.args.messages.now in
    let i = c.loop-place.place in
    elim c.if-goes.branch [
      | then-goes w ↦ record {
        count = (let e = one_goes due xs i _ c.loop-place-test.true c.in-Some.m c.goes.result c.in-Some.is c.goes.ensures w.if-goes.true in omega (arith, w.count-is, e, c.loop-place.invariant.count));
        low = omega (arith, w.count-is, c.loop-place.invariant.low);
      }
      | else-goes w ↦ record {
        count = (let e = one_stays due xs i _ c.loop-place-test.true c.in-Some.m c.goes.result c.in-Some.is c.goes.ensures w.if-goes.false in omega (arith, w.count-is, e, c.loop-place.invariant.count));
        low = omega (arith, w.count-is, c.loop-place.invariant.low);
      }
    ]
