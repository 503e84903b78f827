use Rattle.std.proofs.Common.{◌≡◌, true, length}
use Rattle.std.specs.FinMap.Entries.{is_sorted}
use Rattle.nn_model.specs.Namespace.{path_cmp}
use Rattle.nn_tree.specs.Work.{work, rows_left}
use Rattle.nn_tree.proofs.tree.Tree.drop.Given as goal

-- the rest is in path order
abbrev pub invariant-tops : goal.invariant-tops
invariant-tops l = is_sorted path_cmp (rows_left l.rest) ≡ true

-- what is left to take apart
abbrev pub decreases-tops : goal.decreases-tops
decreases-tops l = work (length l.self) (length (rows_left l.rest))
