-- A walk over rows in path order, and the rows from a path on.
use Rattle.std.specs.Prelude.{◌≡◌, ℕ, List, [], ◌∷◌, ◌++◌, Option, Some, None, IsSome, length, max, filter, take, cond, bytes_eq}
use Rattle.std.specs.Borrow.{Bor}
use Rattle.std.specs.Ordering.{is_le}
use Rattle.nn_model.specs.declared.form.Form.{Form}
use Rattle.nn_model.specs.Namespace.{Path, path_cmp}
use Rattle.nn_tree.specs.At.{at}
use Rattle.nn_tree.specs.Flat.{under, under_all, below}
use Rattle.nn_tree.specs.declared.tree.children.Children.{Children}
use Rattle.nn_tree.specs.declared.rows.Extent.{Extent}
use Rattle.nn_tree.specs.declared.rows.OpenDir.{OpenDir}

-- Where a walk stands: the names of the row that it gave last, the rows that are left, and how many names a row may have that takes no memory any more.
pub record Walk : Type 0 where
  pub names : Path
  pub left : List (Path × Form)
  pub room : ℕ

-- the greatest number of names of a path
abbrev pub greatest_depth : List (Path × Form) → ℕ
greatest_depth [] = 0
greatest_depth (row ∷ rows) = max (length row.0) (greatest_depth rows)

-- how many rows there are, and how deep they are
abbrev pub extent_of : List (Path × Form) → Extent
extent_of rows = record { paths = length rows; depth = greatest_depth rows }

-- the rows at the path p and behind it
abbrev pub rows_from : Path → List (Path × Form) → List (Path × Form)
rows_from p rows = filter (λ row. is_le (path_cmp p row.0)) rows

-- where the rows from a path on come to a row, those from its own path on are that row and all behind it
abbrev pub Resumes : List (Path × Form) → Type 0
Resumes rows = (p : Path) (prefix : List (Path × Form)) (row : Path × Form) (back : List (Path × Form)) → rows_from p rows ≡ prefix ++ row ∷ back → rows_from row.0 rows ≡ row ∷ back

-- ---- What is left of a directory.

-- each child by its name, and its rows
abbrev pub Entries : Type 0
Entries = List (List ℕ × List (Path × Form))

abbrev pub later_of : Option Entries → Entries
later_of None = []
later_of (Some later) = later

-- the first of the children, and those behind it
abbrev pub entries_of : Children → Entries
entries_of children = (children.name.now, children.tree.now) ∷ later_of children.later

-- and none of no children
abbrev pub all_entries : Option Children → Entries
all_entries None = []
all_entries (Some children) = entries_of children

-- something stands at the first child
abbrev pub IsRooted : Option Children → Type 0
IsRooted None = Unit {0}
IsRooted (Some children) = IsSome (at children.tree.now [])

-- what a directory has from the path n ∷ p on, of which these are the children at the name n and behind it
abbrev pub from_children : List ℕ → Path → Option Children → List (Path × Form)
from_children n p None = []
from_children n p (Some children) =
    let k = children.name.now in
    let rows = children.tree.now in
    under k (cond (bytes_eq n k) (rows_from p rows) rows) ++ below (later_of children.later)

-- ---- What is left of a walk.

-- a directory with these children left, and none where none are left
abbrev pub opened : ℕ → Option Children → List OpenDir
opened depth None = []
opened depth (Some children) = record { depth = depth; children = children } ∷ []

-- what is left past the first child of the last directory, which is gone where it has no others
abbrev pub Past : List OpenDir → OpenDir → List OpenDir → Type 0
Past prefix dir after = (others : Option Children) × (all_entries others ≡ later_of dir.children.later) × (after ≡ prefix ++ opened dir.depth others)

abbrev pub IsPast : List OpenDir → List OpenDir → Type 0
IsPast dirs after = (prefix : List OpenDir) (dir : OpenDir) → dirs ≡ prefix ++ dir ∷ [] → Past prefix dir after

-- the rows of the root, where none was given
abbrev pub root_rows : Option (Bor (List (Path × Form))) → List (Path × Form)
root_rows None = []
root_rows (Some root) = root.now

-- What is left in the directories on the way to these names. The innermost stands last, and comes first.
abbrev pub rows_open : Path → List OpenDir → List (Path × Form)
rows_open names [] = []
rows_open names (o ∷ dirs) = rows_open names dirs ++ under_all (take o.depth names) (below (entries_of o.children))
