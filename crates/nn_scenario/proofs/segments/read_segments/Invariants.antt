use Rattle.std.proofs.Common.{◌≡◌, ◌+◌, length}
use Rattle.std.specs.Vec.Iter.{into_iter_items}
use Rattle.nn_scenario.specs.Cut.{segments_from}
use Rattle.nn_scenario.proofs.SegmentLemmas.{prepend}
use Rattle.nn_scenario.proofs.segments.read_segments.Given as goal

-- the segments so far and those of the parts that are left
abbrev pub invariant-loop-part : goal.invariant-loop-part
invariant-loop-part l =
    prepend l.segments.items (segments_from (length l.segments.items + 1) (into_iter_items l.part-iterator)) ≡ segments_from 1 l.fn.parts.items
