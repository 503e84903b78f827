use Rattle.std.proofs.Common.{length}
use Rattle.nn_tree.proofs.tree.Tree.+change_at.Given as goal

abbrev pub decreases-change_at : goal.decreases-change_at
decreases-change_at g l = length l.names.now
