use Rattle.std.proofs.Common.{◌≡◌, ◌≤◌, [], length, take}
use Rattle.nn_postponed.specs.Places.{present}
use Rattle.nn_postponed.specs.Release.{due_at, freed}
use Rattle.nn_postponed.proofs.freed.free_count.Given as goal

abbrev pub invariant-loop-place : goal.invariant-loop-place
invariant-loop-place l = record {
  count : l.count ≡ length (freed (due_at l.block l.status) [] (present (take l.place l.messages)));
  low : l.count ≤ l.place;
}
