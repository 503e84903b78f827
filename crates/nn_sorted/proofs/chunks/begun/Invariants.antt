use Rattle.std.proofs.Common.{◌≤◌, ◌-◌, length}
use Rattle.nn_sorted.specs.Chunks.{IsBegun, IsAhead}
use Rattle.nn_sorted.proofs.chunks.begun.Given as goal

-- the chunk before `low` has begun, and the one at `high` has not
abbrev pub invariant-halves : goal.invariant-halves
invariant-halves g l = (l.low ≤ l.high) × (l.high ≤ length l.chunks) × IsBegun (g.Q.Seek.order l.fn.key) l.chunks l.low × IsAhead (g.Q.Seek.order l.fn.key) l.chunks l.high

abbrev pub decreases-halves : goal.decreases-halves
decreases-halves g l = l.high - l.low
