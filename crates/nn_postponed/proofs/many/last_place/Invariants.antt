use Rattle.std.proofs.Common.{◌≡◌, ℕ, ◌≤◌, length, None}
use Rattle.nn_postponed.specs.Links.{slot}
use Rattle.nn_postponed.proofs.many.last_place.Given as goal

abbrev pub invariant-loop-end : goal.invariant-loop-end
invariant-loop-end l = record {
  low : l.end ≤ length l.messages;
  behind : (q : ℕ) → l.end ≤ q → slot l.messages q ≡ None;
}

abbrev pub decreases-loop-end : goal.decreases-loop-end
decreases-loop-end l = l.end
