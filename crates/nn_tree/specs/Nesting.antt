-- How the directories of a walk lie within each other.
use Rattle.std.specs.Prelude.{◌≡◌, ℕ, ◌+◌, ◌≤◌, List, [], ◌∷◌, length, Option, Some, None}
use Rattle.std.specs.Borrow.{Bor}
use Rattle.nn_model.specs.declared.form.Form.{Form}
use Rattle.nn_model.specs.Namespace.{Path}
use Rattle.nn_tree.specs.declared.rows.OpenDir.{OpenDir}

-- Each directory lies below the one before it, on the way to these names. Their depths begin at `low` and stay below `high`.
abbrev pub Nest : Path → ℕ → ℕ → List OpenDir → Type 0
Nest names low high [] = low ≤ high
Nest names low high (o ∷ dirs) =
    (low ≤ o.depth) × Nest names (o.depth + 1) high dirs

-- before the row of the root nothing was opened
abbrev pub IsAtStart : Option (Bor (List (Path × Form))) → Path → List OpenDir → Type 0
IsAtStart None names dirs = Unit {0}
IsAtStart (Some root) names dirs = (names ≡ []) × (dirs ≡ [])

pub record IsNested (root : Option (Bor (List (Path × Form)))) (names : Path) (dirs : List OpenDir) : Type 0 where
  pub start : IsAtStart root names dirs
  pub nest : Nest names 0 (length names + 1) dirs
