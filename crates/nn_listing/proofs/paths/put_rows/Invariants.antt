use Rattle.std.proofs.Common.{◌≤◌, length}
use Rattle.std.specs.Prelude.{flat_map}
use Rattle.nn_device.specs.Page.{PutsAllBut}
use Rattle.nn_tree.specs.Rows.{greatest_depth}
use Rattle.nn_listing.specs.Listing.{row_line}
use Rattle.nn_listing.proofs.paths.put_rows.Given as goal

-- the rows that are left are to be put, and there is room for them
abbrev pub invariant-rows : goal.invariant-rows
invariant-rows g l = PutsAllBut (flat_map row_line l.fn.rows.left) (flat_map row_line l.rows.left) l.fn.page l.fn.writer l.page l.writer × (greatest_depth l.rows.left ≤ l.rows.room)

abbrev pub decreases-rows : goal.decreases-rows
decreases-rows g l = length l.rows.left
