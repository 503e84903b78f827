use Rattle.std.proofs.Common.{ℕ, ◌≤◌, ◌<◌, ◌-◌, length, get_or}
use Rattle.nn_shadow.proofs.touching.least_from.Given as goal

abbrev pub invariant-loop-low : goal.invariant-loop-low
invariant-loop-low l = record {
  order : l.low ≤ l.high;
  within : l.high ≤ length l.ids;
  below : (k d : ℕ) → k < l.low → get_or l.ids k d < l.from;
  above : (k d : ℕ) → l.high ≤ k → k < length l.ids → l.from ≤ get_or l.ids k d;
}

abbrev pub decreases-loop-low : goal.decreases-loop-low
decreases-loop-low l = l.high - l.low
