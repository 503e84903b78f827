use Rattle.std.proofs.Common.{◌-◌, ◌≤◌, length}
use Rattle.nn_plain.specs.Bytes.{Skips}
use Rattle.nn_plain.proofs.tokens.blanks_end.Given as goal

abbrev pub invariant-loop-i : goal.invariant-loop-i
invariant-loop-i l = record { skips : Skips l.text l.from l.i; bound : l.i ≤ length l.text }

abbrev pub decreases-loop-i : goal.decreases-loop-i
decreases-loop-i l = length l.text - l.i
