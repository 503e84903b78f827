use Rattle.std.specs.Vec.Iter.{into_iter_items}
use Rattle.nn_drive.specs.NewLanes.{HaveCapacity}
use Rattle.nn_drive.proofs.Laned.{Laning}
use Rattle.nn_drive.proofs.lanes.with_lanes.Given as goal

abbrev pub invariant-loop-source : goal.invariant-loop-source
invariant-loop-source g l = record {
  laning : Laning l.fn.sources.items (into_iter_items l.source-iterator) l.workers.items l.ends.items;
  places : HaveCapacity l.fn.capacity l.ends.items;
}
