-- The keys that a format has.
use Rattle.std.specs.Prelude.{ℕ, List, [], ◌∷◌, if◌then◌else◌, Option, Some, None}
use Rattle.std.specs.Str.{bytes_eq}

-- The first of the keys whose text is the name.
abbrev pub first_named : {K : Type 0} → (K → List ℕ) → List ℕ → List K → Option K
first_named text name [] = None
first_named text name (k ∷ ks) = if bytes_eq name (text k) then Some k else first_named text name ks
