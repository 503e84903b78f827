-- The ids of the blocks in a tree, in path order.
use Rattle.std.specs.Prelude.{ℕ, List, [], ◌∷◌, ◌++◌, map}
use Rattle.nn_model.specs.declared.form.Form.{Form}
use Rattle.nn_model.specs.Namespace.{Path, blocks_of}

-- the ids of a file's blocks, and none of a directory
abbrev pub row_ids : Form → List ℕ
row_ids r = map (λ b. b.id) (blocks_of r)

-- the ids of all its files' blocks
abbrev pub ids_of_rows : List (Path × Form) → List ℕ
ids_of_rows [] = []
ids_of_rows (e ∷ es) = row_ids e.1 ++ ids_of_rows es
