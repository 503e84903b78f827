use Rattle.nn_postponed.specs.Release.{due_at}
use Rattle.nn_postponed.proofs.NoHoles.{Wait}
use Rattle.nn_postponed.proofs.few.Few.free_place.Given as goal

abbrev pub invariant-loop-place : goal.invariant-loop-place
invariant-loop-place l = Wait (due_at l.block l.status) l.self l.place
