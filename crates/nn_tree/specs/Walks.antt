-- Why a tree refuses a change, and what a rename moves, by what the tree has at paths.
use Rattle.std.specs.Prelude.{◌≡◌, Bool, true, false, cond, ◌&&◌, List, [], ◌∷◌, ◌++◌, length, drop, nat_lt, Option, Some, None}
use Rattle.nn_model.specs.declared.form.Form.{Form}
use Rattle.nn_model.specs.declared.form.Form.TheVariants.{Dir, File}
use Rattle.nn_model.specs.Namespace.{Path, begins_with}
use Rattle.nn_model.specs.Apply.{first_fault, fault_if, walk, is_root, exists, missing, not_file}
use Rattle.nn_tree.specs.At.{at}
use Rattle.nn_types.specs.declared.edit_fault.EditFault.{EditFault}
use Rattle.nn_types.specs.declared.edit_fault.EditFault.TheVariants.{IntoItself}

-- why nothing can be made at p
abbrev pub mkdir_fault : (Path → Option Form) → Path → Option EditFault
mkdir_fault f p = first_fault (is_root p ∷ walk f p ∷ exists (f p) ∷ [])

-- why nothing can be removed at p
abbrev pub delete_fault : (Path → Option Form) → Path → Option EditFault
delete_fault f p = first_fault (is_root p ∷ walk f p ∷ missing (f p) ∷ [])

-- why there is no file at p
abbrev pub file_fault : (Path → Option Form) → Path → Option EditFault
file_fault f p = first_fault (is_root p ∷ walk f p ∷ missing (f p) ∷ not_file (f p) ∷ [])

-- why s can't move to d
abbrev pub rename_fault : (Path → Option Form) → Path → Path → Option EditFault
rename_fault f s d =
    first_fault (is_root s ∷ is_root d ∷ walk f s ∷ missing (f s) ∷ fault_if (begins_with s d && nat_lt (length s) (length d)) IntoItself ∷ walk f d ∷ exists (f d) ∷ [])

abbrev pub is_some_file : Option Form → Bool
is_some_file None = false
is_some_file (Some Dir) = false
is_some_file (Some (File x)) = true

-- f, with what stands at s moved to d
abbrev pub moved_rows : (Path → Option Form) → Path → Path → Path → Option Form
moved_rows f s d q = cond (begins_with d q) (f (s ++ drop (length d) q)) (cond (begins_with s q) None (f q))

-- new is old after a rename
abbrev pub IsRenamed : List (Path × Form) → Path → Path → List (Path × Form) → Type 0
IsRenamed old s d new = (q : Path) → at new q ≡ moved_rows (at old) s d q
