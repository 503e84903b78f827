use Rattle.std.proofs.Common.{◌≡◌, ◌^◌, drop}
use Rattle.nn_postponed.proofs.Trees.{Mended}
use Rattle.nn_postponed.proofs.stamps.Stamps.put.Given as goal

abbrev pub invariant-loop-node : goal.invariant-loop-node
invariant-loop-node l = record {
  mended : Mended (2 ^ l.initial.self-inside.levels) l.node l.self-inside.nodes.items;
  levels : l.self-inside.levels ≡ l.initial.self-inside.levels;
  places : drop (2 ^ l.initial.self-inside.levels) l.self-inside.nodes.items ≡ drop (2 ^ l.initial.self-inside.levels) l.initial.self-inside.nodes.items;
}

abbrev pub decreases-loop-node : goal.decreases-loop-node
decreases-loop-node l = l.node
