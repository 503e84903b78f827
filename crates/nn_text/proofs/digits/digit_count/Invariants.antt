use Rattle.std.proofs.Common.{◌+◌, ◌≡◌, ◌<◌, ◌≤◌, ◌^◌, length, decimal, ℕ}
use Rattle.nn_text.proofs.digits.digit_count.Given as goal

-- the digits that are counted, and those of the rest
abbrev pub invariant-fours : goal.invariant-fours
invariant-fours l = record {
  all : l.count + length (decimal l.rest) ≡ length (decimal l.number);
  few : length (decimal l.number) ≤ 20;
}

abbrev pub decreases-fours : goal.decreases-fours
decreases-fours l = l.rest
