-- Whose replication is told beside what an edit touched.
use Rattle.std.specs.Prelude.{◌≡◌, true, [], ◌∷◌, map, codes, refl}
use Rattle.nn_types.specs.declared.edit.Edit.TheVariants.{Mkdir, AddBlock, UpdateBlocks, Close, Append, Delete, SetReplication}
use Rattle.nn_model.specs.declared.form.Form.TheVariants.{File}
use Rattle.nn_model.specs.Namespace.{Path, Namespace, root_alone, with_row}
use Rattle.nn_tree.specs.Touched.{file_replication}

abbrev f : Path
f = codes "f" ∷ []

abbrev n : Namespace
n = with_row root_alone f (File (record { replication = 3; closed = true; blocks = [] }))

-- an edit that writes blocks tells its file's, and another none
replications : map (file_replication n) (AddBlock f 1073741825 1001 ∷ UpdateBlocks f [] ∷ Close f [] ∷ Append f ∷ Append (codes "g" ∷ []) ∷ Mkdir f ∷ SetReplication f 2 ∷ Delete f ∷ [])
    ≡ 3 ∷ 3 ∷ 3 ∷ 3 ∷ 0 ∷ 0 ∷ 0 ∷ 0 ∷ []
replications = refl
