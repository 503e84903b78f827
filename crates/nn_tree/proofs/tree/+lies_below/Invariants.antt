use Rattle.std.proofs.Common.{length}
use Rattle.nn_tree.proofs.tree.+lies_below.Given as goal

abbrev pub decreases-lies_below : goal.decreases-lies_below
decreases-lies_below l = length l.prefix.now
