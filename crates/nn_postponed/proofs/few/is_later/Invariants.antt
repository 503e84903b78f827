use Rattle.std.proofs.Common.{◌≡◌, false, take}
use Rattle.std.specs.List.{list_any}
use Rattle.nn_postponed.specs.Places.{present}
use Rattle.nn_postponed.specs.Release.{same_source}
use Rattle.nn_postponed.proofs.few.is_later.Given as goal

abbrev pub invariant-loop-place : goal.invariant-loop-place
invariant-loop-place l = list_any (same_source l.m) (present (take l.place l.messages)) ≡ false
