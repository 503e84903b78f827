-- Values at keys, and the entries from a key on.
use Rattle.std.specs.Prelude.{◌≡◌, ℕ, ◌+◌, List, [], ◌∷◌, Some, None, refl}
use Rattle.std.proofs.Common.{ap, arith}
use Rattle.std.specs.Ordering.{nat_cmp}
use Rattle.nn_sorted.specs.Values.{value_by, value_at, entries_from, ReplacesFirst}

abbrev three : List (ℕ × ℕ)
three = (2, 20) ∷ (5, 50) ∷ (9, 90) ∷ []

found : value_at nat_cmp three 5 ≡ Some 50
found = refl

absent : value_at nat_cmp three 4 ≡ None
absent = refl

-- by a query that is no key
found_by_half : value_by (λ k. nat_cmp 10 (k + k)) three ≡ Some 50
found_by_half = refl

-- a key that is there comes first, and else the next one
from_itself : entries_from (nat_cmp 5) three ≡ (5, 50) ∷ (9, 90) ∷ []
from_itself = refl

from_the_next : entries_from (nat_cmp 6) three ≡ (9, 90) ∷ []
from_the_next = refl

from_all : entries_from (nat_cmp 0) three ≡ three
from_all = refl

from_none : entries_from (nat_cmp 10) three ≡ []
from_none = refl

abbrev first_key : List (ℕ × ℕ) → ℕ
first_key [] = 0
first_key (e ∷ es) = e.0

-- key and others stay
replaced : ReplacesFirst three 20 21 ((2, 21) ∷ (5, 50) ∷ (9, 90) ∷ [])
replaced = (2, (5, 50) ∷ (9, 90) ∷ [], refl, refl)

no_other_key : ReplacesFirst three 20 21 ((3, 21) ∷ (5, 50) ∷ (9, 90) ∷ []) → ⊥
no_other_key (k, rest, was, is) = omega (arith, ap first_key was, ap first_key is)

no_other_lost : ReplacesFirst three 20 21 ((2, 21) ∷ (5, 50) ∷ []) → ⊥
no_other_lost (k, rest, was, is) = cc

none_without_entries : ReplacesFirst {K = ℕ} {V = ℕ} [] 20 21 [] → ⊥
none_without_entries (k, rest, was, is) = cc
