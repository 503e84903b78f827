use Rattle.nn_postponed.proofs.Trees.{Descends}
use Rattle.nn_postponed.proofs.stamps.Stamps.first_up_to.Given as goal

abbrev pub invariant-loop-level : goal.invariant-loop-level
invariant-loop-level l = Descends l.limit l.self-inside.nodes.items l._level l.node
