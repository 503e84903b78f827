use Rattle.std.proofs.Common.{◌≡◌, ◌++◌, length}
use Rattle.nn_tree.specs.Listing.{path_rows}
use Rattle.nn_tree.proofs.listing.copies.Given as goal

-- the copies so far, and the rows that are left
abbrev pub invariant-rows : goal.invariant-rows
invariant-rows l = path_rows l.copies.items ++ l.rows.left ≡ l.fn.rows.left

abbrev pub decreases-rows : goal.decreases-rows
decreases-rows l = length l.rows.left
