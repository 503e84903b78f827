use Rattle.std.proofs.Common.{◌∙◌, ap, sym, arith}
use Rattle.nn_postponed.specs.Queues.{queued}
use Rattle.nn_postponed.proofs.postponed.Postponed.hold_all.Goals as goal
use Rattle.nn_postponed.proofs.Orders.{all_more}

pub loop-i-preserved : goal.loop-i-preserved
loop-i-preserved c = c.in-Ok.ensures.ok ∙ ap (queued c.index-messages-i.result) c.loop-i.invariant
    ∙ sym (all_more c.args.self.now c.args.messages.now c.loop-i.i c.index-messages-i.result (omega (arith, c.loop-i-test.true)) c.index-messages-i.is)

pub returns-in_default-clause-err : goal.returns-in_default-clause-err
returns-in_default-clause-err c = c.revoke.ensures c.args.self.now (c.in_default.ensures.err ∙ c.loop-i.invariant)
