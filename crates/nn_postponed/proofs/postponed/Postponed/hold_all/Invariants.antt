use Rattle.std.proofs.Common.{◌≡◌, take}
use Rattle.nn_postponed.specs.Queues.{all_queued}
use Rattle.nn_postponed.proofs.postponed.Postponed.hold_all.Given as goal

abbrev pub invariant-loop-i : goal.invariant-loop-i
invariant-loop-i l = l.self ≡ all_queued l.fn.self (take l.i l.messages)
