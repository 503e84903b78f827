-- The blocks of a namespace in the order of their ids, each with whether its file is closed.
use Rattle.std.specs.Prelude.{◌≡◌, ℕ, List, map, find, Some, ◌==◌}
use Rattle.std.specs.Ordering.{nat_cmp}
use Rattle.std.specs.List.Sorted.{IsStrictlySortedBy}
use Rattle.nn_model.specs.declared.form.Form.TheVariants.{File}
use Rattle.nn_model.specs.declared.form.FileRow.{FileRow}
use Rattle.nn_model.specs.declared.form.BlockRow.{BlockRow}
use Rattle.nn_model.specs.Namespace.{Path, Namespace, lookup}
use Rattle.nn_model.specs.Blocks.{block_row_at}
use Rattle.nn_model.specs.WellFormed.{Includes}

-- the block stands in a file, which is closed or open as the row says
abbrev pub IsInFile : Namespace → BlockRow → Type 0
IsInFile n row = (p : Path) × (file : FileRow) × (lookup n p ≡ Some (File file)) × Includes file.blocks row.block × (row.closed ≡ file.closed)

-- the blocks of all files, closed or open as the files are, each once, by ascending id
pub record AreBlockRows (n : Namespace) (rows : List BlockRow) : Type 0 where
  pub ascending : IsStrictlySortedBy nat_cmp (map (λ row. row.block.id) rows)
  pub all : (id : ℕ) → find (λ row. row.block.id == id) rows ≡ block_row_at n id
