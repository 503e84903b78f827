-- Names whose first bytes differ as numbers differ alike.
use Rattle.std.proofs.Common.{inl, inr, cond, nat_lt, ltb-true, ◌≡◌, ℕ, zero, suc, ◌+◌, ◌*◌, ◌^◌, ◌<◌, ◌≤◌, true, List, [], ◌∷◌, refl, ap, subst, ◌∙◌, arith}
use Rattle.std.specs.declared.cmp.Ordering.TheVariants.{Less, Equal, Greater}
use Rattle.std.specs.Ordering.{ordering_then, ordering_reverse, nat_cmp}
use Rattle.std.specs.Cmp.Lexicographic.{slice_cmp, nat_list_cmp_total}
use Rattle.std.specs.Prelude.{◌==◌}
use Rattle.std.proofs.lemmas.Bool.{cases_Bool, ltb-false, eq-eqb}
use Rattle.std.proofs.Math.Nat.{mul-le-mul_right}
use Rattle.nn_tree.specs.Name.{byte_of, prefix_of}

-- each is below 256
abbrev pub AreBytes : List ℕ → Type 0
AreBytes bs = (place : ℕ) → byte_of bs place < 256

-- the first k bytes as a number
abbrev number : ℕ → (ℕ → ℕ) → ℕ
number zero f = 0
number (suc k) f = f 0 * 256 ^ k + number k (λ i. f (suc i))

small : (k : ℕ) (f : ℕ → ℕ) → ((i : ℕ) → f i < 256) → number k f < 256 ^ k
small zero f b = omega arith
small (suc k) f b =
    let most : f 0 * 256 ^ k ≤ 255 * 256 ^ k = mul-le-mul_right (256 ^ k) (omega (arith, b 0)) in
    omega (arith, most, small k (λ i. f (suc i)) (λ i. b (suc i)))

-- a greater first byte makes a greater number
greater : (k : ℕ) (f g : ℕ → ℕ) → ((i : ℕ) → g i < 256) → g 0 < f 0 → number (suc k) g ≤ number (suc k) f
greater k f g b h =
    let more : (g 0 + 1) * 256 ^ k ≤ f 0 * 256 ^ k = mul-le-mul_right (256 ^ k) (omega (arith, h)) in
    omega (arith, more, small k (λ i. g (suc i)) (λ i. b (suc i)))

-- past the end of a text there are zeros
nothing : (k : ℕ) (f : ℕ → ℕ) → ((i : ℕ) → f i ≡ 0) → number k f ≡ 0
nothing zero f z = refl
nothing (suc k) f z = omega (arith, ap (λ b. b * 256 ^ k) (z 0), nothing k (λ i. f (suc i)) (λ i. z (suc i)))

none_of : (i : ℕ) → byte_of [] i ≡ 0
none_of zero = refl
none_of (suc i) = refl

by_number : (k : ℕ) (xs ys : List ℕ) → AreBytes xs → AreBytes ys → number k (byte_of xs) < number k (byte_of ys) → slice_cmp nat_cmp xs ys ≡ Less
by_number zero xs ys a b h = absurd (omega (arith, h))
by_number (suc k) [] [] a b h = absurd (omega (arith, h))
by_number (suc k) [] (y ∷ ys) a b h = refl
by_number (suc k) (x ∷ xs) [] a b h = absurd (omega (arith, h, nothing (suc k) (byte_of []) none_of))
by_number (suc k) (x ∷ xs) (y ∷ ys) a b h =
    let rest = slice_cmp nat_cmp xs ys in
    elim (cases_Bool (nat_lt x y)) [
      | inl less ↦ ap (λ t. ordering_then (cond t Less (cond (x == y) Equal Greater)) rest) less
      | inr more ↦ elim (cases_Bool (nat_lt y x)) [
        | inl above ↦ absurd (omega (arith, h, greater k (byte_of (x ∷ xs)) (byte_of (y ∷ ys)) b (ltb-true y x above)))
        | inr not_above ↦
            let same : x ≡ y = omega (arith, ltb-false x y more, ltb-false y x not_above) in
            let tie : (x == y) ≡ true = eq-eqb x y same in
            (λ j. ordering_then (cond (more j) Less (cond (tie j) Equal Greater)) rest)
            ∙ by_number k xs ys (λ i. a (suc i)) (λ i. b (suc i)) (omega (arith, h, ap (λ n. n * 256 ^ k) same))
      ]
    ]

-- the numbers differ as the texts do
below : (xs ys : List ℕ) → AreBytes xs → AreBytes ys → prefix_of xs < prefix_of ys → slice_cmp nat_cmp xs ys ≡ Less
below xs ys a b h = by_number 8 xs ys a b (omega (arith, h))

module _ (f g : ℕ) (xs ys : List ℕ) (a : AreBytes xs) (b : AreBytes ys) (e : f ≡ prefix_of xs) (d : g ≡ prefix_of ys) where
  pub is_below : f < g → slice_cmp nat_cmp xs ys ≡ Less
  is_below h = below xs ys a b (subst (λ n. n < prefix_of ys) e (subst (λ n. f < n) d h))

  pub is_above : g < f → slice_cmp nat_cmp xs ys ≡ Greater
  is_above h = nat_list_cmp_total.antisymm xs ys ∙ ap ordering_reverse (below ys xs b a (subst (λ n. n < prefix_of xs) d (subst (λ n. g < n) e h)))
