-- What a walk down a path comes to, and what a change there is further up.
use Rattle.std.specs.Prelude.{◌≡◌, ◌⊎◌, ℕ, List, [], ◌∷◌, ◌++◌, Option, Some, None}
use Rattle.std.specs.Borrow.{Bor}
use Rattle.nn_model.specs.declared.form.Form.{Form}
use Rattle.nn_model.specs.Namespace.{Path}
use Rattle.nn_model.specs.Apply.{walk}
use Rattle.nn_tree.specs.At.{at, IsSubtree, IsGrafted}

-- the names that a walk leaves: the last one, or none
abbrev pub left : Option (Bor (List ℕ)) → Path
left None = []
left (Some name) = name.now ∷ []

-- a walk down the path p in es takes the names prefix, and comes to the tree t before the names rest
pub record Reaches (es : List (Path × Form)) (p prefix rest : Path) (t : List (Path × Form)) : Type 0 where
  pub path : p ≡ prefix ++ rest
  pub walked : walk (at es) p ≡ walk (at t) rest
  pub stands : IsSubtree es prefix (Some t)

-- a walk down the path p in old came to a tree, which was changed as R says, and new is the whole then
abbrev pub IsChangedAt : List (Path × Form) → Path → List (Path × Form) → (Path → List (Path × Form) → List (Path × Form) → Type 0) → Type 0
IsChangedAt old p new R =
    (prefix : Path) × (rest : Path) × (t : List (Path × Form)) × (w : List (Path × Form)) × Reaches old p prefix rest t × IsGrafted old prefix (Some w) new × R rest t w

-- nothing stands at the path p in es, or a walk comes to a tree that Q tells of
abbrev pub IsRefusedAt : List (Path × Form) → Path → (Path → List (Path × Form) → Type 0) → Type 0
IsRefusedAt es p Q = IsSubtree es p None ⊎ ((prefix : Path) × (rest : Path) × (t : List (Path × Form)) × Reaches es p prefix rest t × Q rest t)
