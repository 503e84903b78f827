use Rattle.std.proofs.Common.{◌≡◌, ◌+◌, ◌-◌, ◌<◌, ℕ, length, get_or, false}
use Rattle.nn_types.specs.Simple.{is_fault}
use Rattle.nn_types.proofs.simple.is_simple.Given as goal

abbrev pub invariant-blocks-2 : goal.invariant-blocks-2
invariant-blocks-2 l = record {
  none : (k : ℕ) → k < l.i → is_fault (get_or l.text k 0) (get_or l.text (k + 1) 0) ≡ false;
  bound : l.i < length l.text;
}

abbrev pub decreases-blocks-2 : goal.decreases-blocks-2
decreases-blocks-2 l = length l.text - l.i
