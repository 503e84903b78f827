-- The tree of stamps on a small example, computed.
use Rattle.std.specs.Prelude.{ℕ, zero, suc, List, [], ◌∷◌, refl}
use Rattle.std.proofs.Common.{arith}
use Rattle.nn_postponed.specs.declared.stamps.TheConstants.{NO_STAMP}
use Rattle.nn_postponed.specs.Stamps.{IsFirstUpTo, AreLeast}

-- the first and the third place have a stamp
abbrev stamps : List ℕ
stamps = 1001 ∷ NO_STAMP ∷ 1002 ∷ NO_STAMP ∷ []

least_above_them : AreLeast 4 (0 ∷ 1001 ∷ 1001 ∷ 1002 ∷ stamps)
least_above_them zero low high = absurd (omega (arith, low))
least_above_them (suc zero) low high = refl
least_above_them (suc (suc zero)) low high = refl
least_above_them (suc (suc (suc zero))) low high = refl
least_above_them (suc (suc (suc (suc node)))) low high = absurd (omega (arith, high))

not_the_higher_one : AreLeast 4 (0 ∷ 1002 ∷ 1001 ∷ 1002 ∷ stamps) → ⊥
not_the_higher_one least = (let e = least 1 (omega arith) (omega arith) in omega (arith, e))

first_low_one : IsFirstUpTo 1002 stamps 0
first_low_one = record { in_range = omega arith; low = omega arith; before = λ q lt. absurd (omega (arith, lt)) }

not_the_next_one : IsFirstUpTo 1002 stamps 2 → ⊥
not_the_next_one found = (let e = found.before 0 (omega arith) in omega (arith, e))
