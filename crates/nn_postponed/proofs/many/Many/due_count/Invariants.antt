use Rattle.std.proofs.Common.{◌≡◌, ◌+◌, length, []}
use Rattle.nn_postponed.specs.Places.{present}
use Rattle.nn_postponed.specs.Release.{due_at, freed}
use Rattle.nn_postponed.proofs.Runs.{all_runs, AllEnds}
use Rattle.nn_postponed.proofs.many.Many.due_count.Given as goal

abbrev pub invariant-loop-ends : goal.invariant-loop-ends
invariant-loop-ends l = record {
  fit : AllEnds l.self-inside.messages.items l.left;
  runs : l.count + all_runs (due_at l.block l.status) (present l.self-inside.messages.items) l.left ≡ length (freed (due_at l.block l.status) [] (present l.self-inside.messages.items));
}

abbrev pub decreases-loop-ends : goal.decreases-loop-ends
decreases-loop-ends l = length l.left
