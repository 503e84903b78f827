-- What is left to do of small trees.
use Rattle.std.specs.Prelude.{◌≡◌, ◌-◌, [], ◌∷◌, map, refl}
use Rattle.nn_tree.specs.Work.{up_to, work}

sums : map up_to (0 ∷ 1 ∷ 2 ∷ 4 ∷ []) ≡ 0 ∷ 1 ∷ 3 ∷ 10 ∷ []
sums = refl

-- five rows, of which three, two or one are in the tree at hand
fewer_at_hand : map (λ here. work here (5 - here)) (3 ∷ 2 ∷ 1 ∷ []) ≡ 18 ∷ 17 ∷ 16 ∷ []
fewer_at_hand = refl

-- one row less is less work, even where all of the others are at hand
fewer_rows : map (λ here. work here (4 - here)) (4 ∷ 0 ∷ []) ≡ 14 ∷ 10 ∷ []
fewer_rows = refl
