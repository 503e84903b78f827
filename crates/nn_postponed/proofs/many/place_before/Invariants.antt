use Rattle.std.proofs.Common.{◌≡◌, ℕ, ◌≤◌, ◌<◌, false}
use Rattle.nn_postponed.specs.Links.{slot, is_of}
use Rattle.nn_postponed.proofs.many.place_before.Given as goal

abbrev pub invariant-loop-end : goal.invariant-loop-end
invariant-loop-end l = record {
  low : l.end ≤ l.place;
  between : (q : ℕ) → l.end ≤ q → q < l.place → is_of l.dn (slot l.messages q) ≡ false;
}

abbrev pub decreases-loop-end : goal.decreases-loop-end
decreases-loop-end l = l.end
