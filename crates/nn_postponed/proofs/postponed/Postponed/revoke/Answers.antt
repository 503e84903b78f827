use Rattle.std.proofs.Common.{◌≡◌, ◌-◌, ◌∙◌, take, ap, arith}
use Rattle.nn_postponed.specs.Queues.{all_queued}
use Rattle.nn_postponed.proofs.postponed.Postponed.revoke.Goals as goal
use Rattle.nn_postponed.proofs.Orders.{back_by_one}

pub loop-left-preserved : goal.loop-left-preserved
loop-left-preserved c = record {
  low = omega (arith, c.loop-left.invariant.low);
  back = λ was is. back_by_one was c.args.messages.now (c.loop-left.left - 1) c.loop-left.left c.index-messages-left.result c.take_last.result c.loop-left.self c.take_last.new.self
      c.take_last.ensures.order (omega (arith, c.loop-left-test.true)) (omega (arith, c.loop-left-test.true, c.loop-left.invariant.low, c.requires))
      c.index-messages-left.is (c.loop-left.invariant.back was is) c.take_last.ensures.some c.take_last.ensures.none;
}

pub returns : goal.returns
returns c = λ was is.
    let none : c.loop-left.left ≡ 0 = omega (arith, c.loop-left-test.false) in
    c.loop-left.invariant.back was is ∙ ap (λ n. all_queued was (take n c.args.messages.now)) none
