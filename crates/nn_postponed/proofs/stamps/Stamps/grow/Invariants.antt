use Rattle.std.proofs.Common.{◌≡◌, ℕ, ◌+◌, ◌<◌, ◌≤◌, ◌^◌, length, drop}
use Rattle.nn_postponed.specs.declared.stamps.TheConstants.{NO_STAMP}
use Rattle.nn_postponed.specs.Stamps.{stamp_there}
use Rattle.nn_postponed.proofs.stamps.Stamps.grow.Given as goal

abbrev pub invariant-loop-place : goal.invariant-loop-place
invariant-loop-place l = record {
  put : (q : ℕ) → q < l.place → stamp_there l.larger q ≡ stamp_there (drop (2 ^ l.self-inside.levels) l.self-inside.nodes.items) q;
  none : (q : ℕ) → l.place ≤ q → stamp_there l.larger q ≡ NO_STAMP;
  places : length l.larger ≡ l.places + l.places;
}
