use Rattle.std.proofs.Common.{length}
use Rattle.nn_tree.proofs.tree.Tree.+reach.Given as goal

abbrev pub decreases-reach : goal.decreases-reach
decreases-reach l = length l.names.now
