use Rattle.std.proofs.Common.{length}
use Rattle.nn_tree.proofs.tree.Tree.+rename.Given as goal

abbrev pub decreases-rename : goal.decreases-rename
decreases-rename l = length l.src.now
