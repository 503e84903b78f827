use Rattle.std.proofs.Common.{◌≤◌, length}
use Rattle.std.specs.Prelude.{flat_map}
use Rattle.nn_device.specs.Page.{PutsAllBut}
use Rattle.nn_tree.specs.Rows.{greatest_depth}
use Rattle.nn_live.specs.Answers.{holder_lines}
use Rattle.nn_live.proofs.one_block.put_holder.Given as goal

-- the lines of the rows that are left are to be put, and there is room for these rows
abbrev pub invariant-rows : goal.invariant-rows
invariant-rows g l = PutsAllBut (flat_map (holder_lines l.id) l.fn.rows.left) (flat_map (holder_lines l.id) l.rows.left) l.fn.page l.fn.writer l.page l.writer × (greatest_depth l.rows.left ≤ l.rows.room)

abbrev pub decreases-rows : goal.decreases-rows
decreases-rows g l = length l.rows.left
