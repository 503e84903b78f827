use Rattle.std.proofs.Common.{◌≡◌, ℕ, ◌+◌, ◌-◌, ◌≤◌, true, length, drop}
use Rattle.nn_postponed.specs.Links.{slot, is_of}
use Rattle.nn_postponed.specs.Places.{present}
use Rattle.nn_postponed.specs.Scans.{due_run}
use Rattle.nn_postponed.specs.Release.{due_at}
use Rattle.nn_postponed.proofs.many.due_run.Given as goal

abbrev pub invariant-loop-place : goal.invariant-loop-place
invariant-loop-place l = record {
  own : (dn : ℕ) → is_of dn (slot l.messages l.first) ≡ true → is_of dn (slot l.messages l.place) ≡ true;
  run : (dn : ℕ) → is_of dn (slot l.messages l.first) ≡ true →
      l.count + due_run dn (due_at l.block l.status) (present (drop l.place l.messages)) ≡ due_run dn (due_at l.block l.status) (present (drop l.first l.messages));
  low : l.count ≤ l.place;
}

abbrev pub decreases-loop-place : goal.decreases-loop-place
decreases-loop-place l = length l.messages - l.place
