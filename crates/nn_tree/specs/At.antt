-- What a list of paths has at a path.
use Rattle.std.specs.Prelude.{◌≡◌, List, [], ◌∷◌, ◌++◌, map, cond, Option, Some, None, bytes_eq}
use Rattle.std.specs.FinMap.{find}
use Rattle.std.specs.String.{string_bytes}
use Rattle.std.specs.declared.string.String.{String}
use Rattle.nn_model.specs.declared.form.Form.{Form}
use Rattle.nn_model.specs.Namespace.{Path, path_cmp}

-- the row at the path p
abbrev pub at : List (Path × Form) → Path → Option Form
at es p = find path_cmp p es

-- the names, as bytes
abbrev pub names_of : {Y : Type 0} → List (String Y) → Path
names_of = map string_bytes

-- the rows of a tree, and none of no tree
abbrev pub rows : Option (List (Path × Form)) → Path → Option Form
rows None q = None
rows (Some t) q = at t q

-- o is what stands at the path p and below it, or None where nothing stands there
abbrev pub IsSubtree : List (Path × Form) → Path → Option (List (Path × Form)) → Type 0
IsSubtree es p o = (q : Path) → at es (p ++ q) ≡ rows o q

-- f, with g instead of what it has at the path p and below
abbrev pub grafted : (Path → Option Form) → Path → (Path → Option Form) → Path → Option Form
grafted f [] g q = g q
grafted f (n ∷ ns) g [] = f []
grafted f (n ∷ ns) g (m ∷ q) = cond (bytes_eq n m) (grafted (λ r. f (n ∷ r)) ns g q) (f (m ∷ q))

-- new is old with o at the path p instead of what stood there, and below it
abbrev pub IsGrafted : List (Path × Form) → Path → Option (List (Path × Form)) → List (Path × Form) → Type 0
IsGrafted old p o new = (q : Path) → at new q ≡ grafted (at old) p (rows o) q

-- both have the same rows
abbrev pub IsSame : List (Path × Form) → List (Path × Form) → Type 0
IsSame old new = (q : Path) → at new q ≡ at old q
