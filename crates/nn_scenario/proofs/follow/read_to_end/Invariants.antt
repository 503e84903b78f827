use Rattle.std.proofs.Common.{◌≡◌, List, ℕ, ◌+◌, length}
use Rattle.nn_input.specs.Cut.{Came}
use Rattle.nn_scenario.proofs.follow.read_to_end.Given as goal

abbrev pub invariant-reads : goal.invariant-reads
invariant-reads g l = record { come : (bytes : List ℕ) × Came l.fn.input l.input bytes × (l.room + length bytes ≡ l.fn.most) }

abbrev pub decreases-reads : goal.decreases-reads
decreases-reads g l = l.room
