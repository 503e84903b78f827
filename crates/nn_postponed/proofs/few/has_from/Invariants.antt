use Rattle.std.proofs.Common.{◌≡◌, false, take}
use Rattle.std.specs.List.{list_any}
use Rattle.nn_postponed.specs.Places.{present}
use Rattle.nn_postponed.specs.Queues.{is_from}
use Rattle.nn_postponed.proofs.few.has_from.Given as goal

abbrev pub invariant-loop-place : goal.invariant-loop-place
invariant-loop-place l = list_any (is_from l.dn l.block) (present (take l.place l.messages)) ≡ false
