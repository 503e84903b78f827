use Rattle.std.proofs.Common.{◌≡◌, ◌+◌, ◌≤◌, ◌^◌, drop, map, Ok}
use Rattle.nn_segment.specs.Reading.{later_fault}
use Rattle.nn_segment.proofs.parsed.later_fault.Given as goal

-- no fault so far
abbrev pub invariant-loop-place : goal.invariant-loop-place
invariant-loop-place l = record {
  small : l.next ≤ 2 ^ 63;
  same : later_fault l.profile (2 + l.place) l.next (map Ok (drop l.place l.txs)) ≡ later_fault l.profile 2 l.expected (map Ok l.txs);
}
