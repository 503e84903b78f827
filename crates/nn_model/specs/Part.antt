-- The part of a namespace that a log is about. An audit gives the program this part alone, and compares the rest by sums.
use Rattle.std.specs.Prelude.{ℕ, Bool, false, not, ◌||◌, List, [], ◌∷◌, ◌++◌, map, filter, Some, bytes_eq}
use Rattle.std.specs.List.{list_any}
use Rattle.nn_types.specs.declared.edit.Edit.{Edit}
use Rattle.nn_types.specs.declared.edit.Edit.TheVariants.{Mkdir, Add, AddBlock, UpdateBlocks, Close, Append, Rename, Delete, SetReplication}
use Rattle.nn_model.specs.declared.form.Form.{Form}
use Rattle.nn_model.specs.Namespace.{Path, Namespace, begins_with}
use Rattle.nn_model.specs.Apply.{is_dir, moved, in_path_order}

-- the name is one of these
abbrev pub has_name : List (List ℕ) → List ℕ → Bool
has_name names name = list_any (bytes_eq name) names

-- the last name of the path is one of these
abbrev pub ends_in : List (List ℕ) → Path → Bool
ends_in names [] = false
ends_in names (name ∷ []) = has_name names name
ends_in names (name ∷ next ∷ p) = ends_in names (next ∷ p)

-- a directory, or a file of one of these names
abbrev pub is_in_part : List (List ℕ) → Path × Form → Bool
is_in_part names row = is_dir (Some row.1) || ends_in names row.0

-- all directories, and the files of these names; with all that was issued
abbrev pub part : List (List ℕ) → Namespace → Namespace
part names n = record n { rows = filter (is_in_part names) n.rows }

-- the files of other names
abbrev pub rest : List (List ℕ) → Namespace → List (Path × Form)
rest names n = filter (λ row. not (is_in_part names row)) n.rows

-- such files after an edit: they go along with their directories
abbrev pub carried : List (Path × Form) → Edit → List (Path × Form)
carried rows (Rename s d) = in_path_order (map (λ row. (moved s d row.0, row.1)) rows)
carried rows (Delete p) = filter (λ row. not (begins_with p row.0)) rows
carried rows _ = rows

-- the names in the paths of an edit
abbrev pub names_in : Edit → List (List ℕ)
names_in (Mkdir p) = p
names_in (Add p r) = p
names_in (AddBlock p i stamp) = p
names_in (UpdateBlocks p bs) = p
names_in (Close p bs) = p
names_in (Append p) = p
names_in (Rename s d) = s ++ d
names_in (Delete p) = p
names_in (SetReplication p r) = p
names_in _ = []
