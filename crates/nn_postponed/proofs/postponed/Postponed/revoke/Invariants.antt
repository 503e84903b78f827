use Rattle.std.proofs.Common.{◌≡◌, ◌≤◌, List, take}
use Rattle.nn_types.specs.declared.report.Message.{Message}
use Rattle.nn_postponed.specs.Queues.{all_queued}
use Rattle.nn_postponed.proofs.postponed.Postponed.revoke.Given as goal

abbrev pub invariant-loop-left : goal.invariant-loop-left
invariant-loop-left l = record {
  low : l.left ≤ l.held;
  back : (was : List Message) → l.fn.self ≡ all_queued was (take l.held l.messages) → l.self ≡ all_queued was (take l.left l.messages);
}

abbrev pub decreases-loop-left : goal.decreases-loop-left
decreases-loop-left l = l.left
