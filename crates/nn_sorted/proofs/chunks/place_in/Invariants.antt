use Rattle.std.proofs.Common.{◌≤◌, ◌-◌, length}
use Rattle.nn_sorted.specs.Chunks.{IsAbove, IsBelow}
use Rattle.nn_sorted.proofs.chunks.place_in.Given as goal

-- the key is above the entry before `low`, and below the one at `high`
abbrev pub invariant-halves : goal.invariant-halves
invariant-halves g l = (l.low ≤ l.high) × (l.high ≤ length l.entries) × IsAbove (g.Q.Seek.order l.fn.key) l.entries l.low × IsBelow (g.Q.Seek.order l.fn.key) l.entries l.high

abbrev pub decreases-halves : goal.decreases-halves
decreases-halves g l = l.high - l.low
