use Rattle.std.proofs.Common.{◌≡◌, drop}
use Rattle.nn_segment.specs.Segment.{ends_once}
use Rattle.nn_segment.proofs.parsed.ends_once.Given as goal

-- no mark so far
abbrev pub invariant-loop-place : goal.invariant-loop-place
invariant-loop-place l = ends_once (drop l.place l.txs) ≡ ends_once l.txs
