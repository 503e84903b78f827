-- Sorted ids are the definition's.
use Rattle.std.proofs.Common.{inl, inr, ◌≡◌, ℕ, suc, ◌+◌, ◌≤◌, ◌<◌, Bool, true, false, cond, List, [], ◌∷◌, length, refl, sym, ap, subst, ◌∙◌, arith}
use Rattle.std.specs.Prelude.{◌==◌, nat_lt, slice_index_or, if◌then◌else◌}
use Rattle.std.specs.List.Sorted.{IsPermutation, IsSorted, IsNonDecreasingBy}
use Rattle.std.specs.Ordering.{nat_cmp}
use Rattle.std.proofs.lemmas.Bool.{cases_Bool, eq-eqb, ne_eqb, ltb-true, ltb-false}
use Rattle.std.proofs.lemmas.List.Recursion.{is_sum_by}
use Rattle.std.proofs.lemmas.List.Sorted.{IsNonDecreasingBy-from_sort, sum_by-IsPermutation}
use Rattle.nn_model.specs.Touched.{with_id, ascending}

-- how often the number stands in the list
abbrev pub many : ℕ → List ℕ → ℕ
many i [] = 0
many i (x ∷ xs) = cond (x == i) 1 0 + many i xs

-- the number is at most each one of the list
abbrev pub IsLow : ℕ → List ℕ → Type 0
IsLow x [] = Unit {0}
IsLow x (y ∷ ys) = (x ≤ y) × IsLow x ys

abbrev pub Rises : List ℕ → Type 0
Rises [] = Unit {0}
Rises (x ∷ xs) = IsLow x xs × Rises xs

-- ---- what the definition gives

many_with : (j i : ℕ) (ids : List ℕ) → many j (with_id i ids) ≡ cond (i == j) 1 0 + many j ids
many_with j i [] = refl
many_with j i (x ∷ ids) =
    elim (nat_lt i x) as (λ b. many j (if b then i ∷ x ∷ ids else x ∷ with_id i ids) ≡ cond (i == j) 1 0 + many j (x ∷ ids)) [
      | true ↦ refl
      | false ↦ omega (arith, many_with j i ids)
    ]

many_ascending : (j : ℕ) (ids : List ℕ) → many j (ascending ids) ≡ many j ids
many_ascending j [] = refl
many_ascending j (i ∷ ids) = many_with j i (ascending ids) ∙ ap (λ k. cond (i == j) 1 0 + k) (many_ascending j ids)

lower : (x y : ℕ) (ids : List ℕ) → x ≤ y → IsLow y ids → IsLow x ids
lower x y [] h low = tt
lower x y (z ∷ ids) h low = (omega (arith, h, low.0), lower x y ids h low.1)

low_with : (x i : ℕ) (ids : List ℕ) → x ≤ i → IsLow x ids → IsLow x (with_id i ids)
low_with x i [] h low = (h, tt)
low_with x i (y ∷ ids) h low =
    elim (nat_lt i y) as (λ b. IsLow x (if b then i ∷ y ∷ ids else y ∷ with_id i ids)) [
      | true ↦ (h, low)
      | false ↦ (low.0, low_with x i ids h low.1)
    ]

rises_with : (i : ℕ) (ids : List ℕ) → Rises ids → Rises (with_id i ids)
rises_with i [] r = (tt, tt)
rises_with i (x ∷ ids) r =
    elim (nat_lt i x) as (λ b. nat_lt i x ≡ b → Rises (if b then i ∷ x ∷ ids else x ∷ with_id i ids)) [
      | true ↦ λ e. let l : i < x = ltb-true i x e in ((omega (arith, l), lower i x ids (omega (arith, l)) r.0), r)
      | false ↦ λ e. (low_with x i ids (ltb-false i x e) r.0, rises_with i ids r.1)
    ] refl

rises_ascending : (ids : List ℕ) → Rises (ascending ids)
rises_ascending [] = tt
rises_ascending (i ∷ ids) = rises_with i (ascending ids) (rises_ascending ids)

-- ---- what a sort gives

many_same : (j : ℕ) (xs ys : List ℕ) → IsPermutation xs ys → many j ys ≡ many j xs
many_same j xs ys p =
    let f : ℕ → ℕ = λ x. cond (x == j) 1 0 in
    is_sum_by (many j) f refl (λ x zs. refl) ys ∙ sum_by-IsPermutation f xs ys p ∙ sym (is_sum_by (many j) f refl (λ x zs. refl) xs)

-- ---- two such lists are one

none_below : (x : ℕ) (ys : List ℕ) → ((y : ℕ) → IsLow y ys → x < y → many x ys ≡ 0)
none_below x [] y low h = refl
none_below x (z ∷ ys) y low h =
    let off : (z == x) ≡ false = ne_eqb z x (λ e. omega (arith, e, h, low.0)) in
    let bit : Bool → ℕ = λ b. cond b 1 0 in
    let zero : bit (z == x) ≡ 0 = ap bit off in
    omega (arith, zero, none_below x ys y low.1 h)

one_here : (x : ℕ) (xs : List ℕ) → 1 ≤ many x (x ∷ xs)
one_here x xs = subst (λ b. 1 ≤ cond b 1 0 + many x xs) (sym (eq-eqb x x refl)) (omega arith)

not_less : (x y : ℕ) (xs ys : List ℕ) → Rises (y ∷ ys) → ((i : ℕ) → many i (x ∷ xs) ≡ many i (y ∷ ys)) → x < y → ⊥
not_less x y xs ys r e h =
    let zero = none_below x (y ∷ ys) y (omega arith, r.0) h in
    omega (arith, one_here x xs, e x, zero)

pub only_one : (xs ys : List ℕ) → Rises xs → Rises ys → ((i : ℕ) → many i xs ≡ many i ys) → xs ≡ ys
only_one [] [] r s e = refl
only_one [] (y ∷ ys) r s e = absurd (let h = one_here y ys in let none : 0 ≡ many y (y ∷ ys) = e y in omega (arith, h, none))
only_one (x ∷ xs) [] r s e = absurd (let h = one_here x xs in let none : many x (x ∷ xs) ≡ 0 = e x in omega (arith, h, none))
only_one (x ∷ xs) (y ∷ ys) r s e =
    elim (cases_Bool (nat_lt x y)) [
      | inl l ↦ absurd (not_less x y xs ys s e (ltb-true x y l))
      | inr nl ↦ elim (cases_Bool (nat_lt y x)) [
        | inl g ↦ absurd (not_less y x ys xs r (λ i. sym (e i)) (ltb-true y x g))
        | inr ng ↦
            (let same : x ≡ y = (let a = ltb-false x y nl in let b = ltb-false y x ng in omega (arith, a, b)) in
            let rest : (i : ℕ) → many i xs ≡ many i ys = λ i. (let one = e i in let bit : ℕ → ℕ = λ z. cond (z == i) 1 0 in let head : bit x ≡ bit y = ap bit same in omega (arith, one, head)) in
            (λ j. same j ∷ only_one xs ys r.1 s.1 rest j))
      ]
    ]

-- each number is at most each later one
low_from : (x : ℕ) (ys : List ℕ) → ((k d : ℕ) → k < length ys → x ≤ slice_index_or ys k d) → IsLow x ys
low_from x [] h = tt
low_from x (y ∷ ys) h = (h 0 0 (omega arith), low_from x ys (λ k d l. h (suc k) d (omega (arith, l))))

rises_from : (xs : List ℕ) → IsNonDecreasingBy (λ x. x) xs → Rises xs
rises_from [] h = tt
rises_from (x ∷ xs) h = (low_from x xs (λ k d l. h 0 (suc k) d (omega arith) (omega (arith, l))), rises_from xs (λ i j d le l. h (suc i) (suc j) d (omega (arith, le)) (omega (arith, l))))

-- what a sort makes of ids is the ids in ascending order
pub sorted_is : (xs ys : List ℕ) → IsPermutation xs ys → IsSorted nat_cmp ys → ys ≡ ascending xs
sorted_is xs ys p s = only_one ys (ascending xs) (rises_from ys (IsNonDecreasingBy-from_sort (λ x. x) ys s)) (rises_ascending xs) (λ i. many_same i xs ys p ∙ sym (many_ascending i xs))
