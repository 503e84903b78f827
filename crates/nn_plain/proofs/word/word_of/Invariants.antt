use Rattle.std.proofs.Common.{◌≡◌, ◌<◌, ◌≤◌, ◌^◌, ◌-◌, length, take, drop, min}
use Rattle.std.specs.Simd.Lanes.{number_l}
use Rattle.nn_plain.proofs.word.word_of.Given as goal

abbrev pub invariant-loop-i : goal.invariant-loop-i
invariant-loop-i l = record {
  value : l.word ≡ number_l 256 (drop l.i (take 8 l.key));
  bound : l.i ≤ min (length l.key) 8;
  small : l.word < 256 ^ (8 - l.i);
}

abbrev pub decreases-loop-i : goal.decreases-loop-i
decreases-loop-i l = l.i
