use Rattle.std.proofs.Common.{◌-◌, ◌<◌, ◌≤◌, length}
use Rattle.nn_plain.specs.Bytes.{DigitsRead}
use Rattle.nn_plain.proofs.number.digits_one_by_one.Given as goal

abbrev pub invariant-loop-i : goal.invariant-loop-i
invariant-loop-i l = record {
  so_far : DigitsRead l.text l.from l.i l.n;
  bound : (l.from ≤ l.i) × (l.i ≤ length l.text);
  small : l.n < 10_000_000_000_000_000_000;
}

abbrev pub decreases-loop-i : goal.decreases-loop-i
decreases-loop-i l = length l.text - l.i
