-- A listing as the rows of a namespace.
use Rattle.std.specs.Prelude.{ℕ, List, map}
use Rattle.std.specs.Borrow.{Bor}
use Rattle.std.specs.Map.Iter.{deref}
use Rattle.nn_model.specs.declared.form.Form.{Form}
use Rattle.nn_model.specs.Namespace.{Path}
use Rattle.nn_tree.specs.At.{names_of}
use Rattle.nn_tree.specs.declared.listing.PathRow.{PathRow}

-- each path with what stands there
abbrev pub path_rows : List PathRow → List (Path × Form)
path_rows rows = map (λ row. (names_of row.names.items, row.form)) rows

-- the names that are lent, as bytes
abbrev pub lent_names : List (Bor (List ℕ)) → Path
lent_names names = map deref names
