-- How many files and how many directories a namespace has.
use Rattle.std.specs.Prelude.{ℕ, ◌+◌, Bool, true, false, not, List}
use Rattle.std.specs.List.{count_by}
use Rattle.nn_model.specs.declared.form.Form.{Form}
use Rattle.nn_model.specs.declared.form.Form.TheVariants.{Dir, File}
use Rattle.nn_model.specs.Namespace.{Path, Namespace}
use Rattle.nn_tree.specs.declared.sizes.Sizes.{Sizes}

-- a file, closed or open
abbrev pub is_file : Form → Bool
is_file Dir = false
is_file (File x) = true

abbrev pub files_of : Namespace → ℕ
files_of n = count_by (λ row. is_file row.1) n.rows

-- the root is one of them
abbrev pub directories_of : Namespace → ℕ
directories_of n = count_by (λ row. not (is_file row.1)) n.rows

-- both, of the rows of a tree
abbrev pub sizes_of : List (Path × Form) → Sizes
sizes_of rows = record { files = count_by (λ row. is_file row.1) rows; directories = count_by (λ row. not (is_file row.1)) rows }

-- these and those
abbrev pub plus : Sizes → Sizes → Sizes
plus these those = record { files = these.files + those.files; directories = these.directories + those.directories }
