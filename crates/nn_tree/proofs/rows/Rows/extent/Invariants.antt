use Rattle.std.proofs.Common.{◌≡◌, ◌+◌, length, max}
use Rattle.nn_tree.specs.Rows.{greatest_depth}
use Rattle.nn_tree.proofs.rows.Rows.extent.Given as goal

-- those so far and those that are left are all
abbrev pub invariant-rows : goal.invariant-rows
invariant-rows l = (l.extent.paths + length l.self.left ≡ length l.fn.self.left) × (max l.extent.depth (greatest_depth l.self.left) ≡ greatest_depth l.fn.self.left)

abbrev pub decreases-rows : goal.decreases-rows
decreases-rows l = length l.self.left
