-- Names that JSON writes as they are, between its quotes. For private clauses.
use Rattle.std.specs.Prelude.{ℕ, List, ◌∷◌, Bool, not, ◌&&◌, ◌==◌, nat_le}
use Rattle.std.specs.List.{list_all}
use Rattle.json.specs.Print.{escape}
use Rattle.nn_types.specs.Path.{slash}

-- no control character, no quote and no backslash
abbrev pub is_plain_byte : ℕ → Bool
is_plain_byte b = nat_le 32 b && not (b == 34) && not (b == 92)

abbrev pub is_plain : List ℕ → Bool
is_plain name = list_all is_plain_byte name

-- a slash and a name, as a string of JSON has them
abbrev pub escaped_name : List ℕ → List ℕ
escaped_name name = slash ∷ escape name

-- a slash and a name as it is
abbrev pub slashed : List ℕ → List ℕ
slashed name = slash ∷ name
