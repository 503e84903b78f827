-- A tree as the list of its paths, each with its row.
use Rattle.std.specs.Prelude.{ℕ, List, [], ◌∷◌, ◌++◌}
use Rattle.std.specs.List.Sorted.{IsStrictlySortedBy}
use Rattle.std.specs.Map.{keys_of}
use Rattle.nn_model.specs.declared.form.Form.{Form}
use Rattle.nn_model.specs.Namespace.{Path}
use Rattle.nn_model.specs.declared.form.Form.TheVariants.{Dir, File}
use Rattle.nn_tree.specs.declared.tree.Node.{Node}
use Rattle.nn_tree.specs.declared.tree.Node.TheVariants.{Folder, Narrow, Leaf}
use Rattle.nn_tree.specs.Name.{name_cmp}

-- each path, below the name n
abbrev pub under : List ℕ → List (Path × Form) → List (Path × Form)
under n [] = []
under n (e ∷ es) = (n ∷ e.0, e.1) ∷ under n es

-- each path, below the path p
abbrev pub under_all : Path → List (Path × Form) → List (Path × Form)
under_all [] es = es
under_all (n ∷ p) es = under n (under_all p es)

-- the paths of a directory's children, one after another
abbrev pub below : List (List ℕ × List (Path × Form)) → List (Path × Form)
below [] = []
below (c ∷ cs) = under c.0 c.1 ++ below cs

-- the paths of a node, itself first
abbrev pub flat : Node → List (Path × Form)
flat (Folder m) = ([], Dir) ∷ below m
flat (Narrow n t) = ([], Dir) ∷ below ((n, t.value) ∷ [])
flat (Leaf f) = ([], File f) ∷ []

-- the names in a directory are in order
abbrev pub IsInOrder : Node → Type 0
IsInOrder (Folder m) = IsStrictlySortedBy name_cmp (keys_of m)
IsInOrder (Narrow n t) = Unit {0}
IsInOrder (Leaf f) = Unit {0}
