-- Profiles and their numbers.
use Rattle.std.specs.Prelude.{◌≡◌, [], ◌∷◌, map, true, false, Some, None, refl}
use Rattle.nn_types.specs.declared.profile.Profile.TheVariants.{One, Two}
use Rattle.nn_types.specs.Profile.{profile_number, profile_of, is_lower}

numbers : map profile_number (One ∷ Two ∷ []) ≡ 1 ∷ 2 ∷ []
numbers = refl

of_numbers : map profile_of (0 ∷ 1 ∷ 2 ∷ 3 ∷ []) ≡ None ∷ Some One ∷ Some Two ∷ None ∷ []
of_numbers = refl

lower : map (λ p. is_lower p Two) (One ∷ Two ∷ []) ≡ true ∷ false ∷ []
lower = refl

lower_than_one : map (λ p. is_lower p One) (One ∷ Two ∷ []) ≡ false ∷ false ∷ []
lower_than_one = refl
