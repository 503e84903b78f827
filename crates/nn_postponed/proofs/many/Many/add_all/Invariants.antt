use Rattle.std.proofs.Common.{◌≡◌, ◌++◌, take}
use Rattle.nn_postponed.specs.Places.{present}
use Rattle.nn_postponed.proofs.many.Many.add_all.Given as goal

abbrev pub invariant-loop-place : goal.invariant-loop-place
invariant-loop-place l = present l.self ≡ present l.fn.self ++ present (take l.place l.messages)
