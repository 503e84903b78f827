-- The first bytes of texts as numbers.
use Rattle.std.specs.Prelude.{◌≡◌, ◌*◌, ◌^◌, [], ◌∷◌, refl}
use Rattle.nn_tree.specs.Name.{prefix_of}

-- a text of three bytes has five zeros behind it
short : prefix_of (97 ∷ 98 ∷ 99 ∷ []) ≡ 6382179 * 256 ^ 5
short = refl

-- the first byte is the highest, the eighth the lowest, and the ninth says nothing
long : prefix_of (0 ∷ 0 ∷ 0 ∷ 0 ∷ 0 ∷ 0 ∷ 1 ∷ 2 ∷ 3 ∷ []) ≡ 258
long = refl

empty : prefix_of [] ≡ 0
empty = refl
