-- The name of a child, and the first bytes of a text as a number.
use Rattle.std.specs.Prelude.{ℕ, List, [], ◌∷◌, slice_index_or}
use Rattle.std.specs.Int.{from_be_bytes, w64}
use Rattle.std.specs.Ordering.{nat_cmp}
use Rattle.std.specs.Cmp.Lexicographic.{slice_cmp}
use Rattle.std.specs.String.{string_bytes}
use Rattle.std.specs.declared.cmp.Ordering.{Ordering}
use Rattle.nn_tree.specs.declared.name.Text.{Text}
use Rattle.nn_tree.specs.declared.name.Text.TheVariants.{Short, Long}

-- names by their bytes
abbrev pub name_cmp : List ℕ → List ℕ → Ordering
name_cmp = slice_cmp nat_cmp

-- the bytes of a name, wherever they lie
abbrev pub text_of : Text → List ℕ
text_of (Short text) = text.bytes
text_of (Long text) = string_bytes text

-- a byte of a text, and zero past its end
abbrev pub byte_of : List ℕ → ℕ → ℕ
byte_of bs place = slice_index_or bs place 0

-- the first eight bytes as a number, the first one highest
abbrev pub prefix_of : List ℕ → ℕ
prefix_of bs = from_be_bytes w64 (byte_of bs 0 ∷ byte_of bs 1 ∷ byte_of bs 2 ∷ byte_of bs 3 ∷ byte_of bs 4 ∷ byte_of bs 5 ∷ byte_of bs 6 ∷ byte_of bs 7 ∷ [])
