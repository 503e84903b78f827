use Rattle.std.proofs.Common.{◌≤◌, length}
use Rattle.nn_device.specs.Page.{PutsAllBut}
use Rattle.nn_tree.specs.Rows.{greatest_depth}
use Rattle.nn_image.specs.Text.{row_lines}
use Rattle.nn_image.proofs.saving.put_rows.Given as goal

-- the lines of the rows that are left are to be put, and the walk has its room
abbrev pub invariant-rows : goal.invariant-rows
invariant-rows g l = record {
  put : PutsAllBut (row_lines l.fn.rows.left) (row_lines l.rows.left) l.fn.page l.fn.writer l.page l.writer;
  room : greatest_depth l.rows.left ≤ l.rows.room;
}

abbrev pub decreases-rows : goal.decreases-rows
decreases-rows g l = length l.rows.left
