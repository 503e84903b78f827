-- The blocks of a namespace, each with whether its file is closed.
use Rattle.std.specs.Prelude.{ℕ, Bool, List, [], map, flat_map, find, Option, ◌==◌}
use Rattle.nn_types.specs.declared.block.Block.{Block}
use Rattle.nn_model.specs.declared.form.Form.{Form}
use Rattle.nn_model.specs.declared.form.Form.TheVariants.{Dir, File}
use Rattle.nn_model.specs.declared.form.BlockRow.{BlockRow}
use Rattle.nn_model.specs.Namespace.{Namespace}

-- a block as a closed or an open file holds it
abbrev pub block_row : Bool → Block → BlockRow
block_row closed b = record { block = b; closed = closed }

-- the blocks of what is at a path
abbrev pub block_rows_of : Form → List BlockRow
block_rows_of Dir = []
block_rows_of (File file) = map (λ b. block_row file.closed b) file.blocks

-- the blocks of all files, in path order and then in file order
abbrev pub block_rows : Namespace → List BlockRow
block_rows n = flat_map (λ row. block_rows_of row.1) n.rows

-- the block that a file holds under this id, and whether the file is closed
abbrev pub block_row_at : Namespace → ℕ → Option BlockRow
block_row_at n id = find (λ row. row.block.id == id) (block_rows n)
