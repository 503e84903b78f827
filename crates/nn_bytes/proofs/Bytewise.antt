-- A mask that is computed lane by lane is held to a test at each of the 256 bytes; and the run before the first byte that fails one.
use Rattle.std.proofs.Common.{◌≡◌, ◌+◌, ◌==◌, ℕ, zero, suc, ◌%◌, ◌^◌, ◌<◌, ◌≤◌, leb, Bool, true, false, not, ◌&&◌, ◌⊎◌, inl, inr, cond, eqb, T, List, [], ◌∷◌, map, length, refl, sym, ap, ap₂, ◌∙◌, subst, arith, w8, Fits, not-suc-le-zero}
use Rattle.std.specs.List.{prefix_len}
use Rattle.std.proofs.lemmas.Simd.{first_set_mask_l, mask_l-mod}
use Rattle.std.proofs.lemmas.List.{length-map}
use Rattle.std.proofs.lemmas.Bool.{cases_order}
use lib.Count.{count_trailing_zeros}
use lib.Lanes.{mask_l, top, Each1}
use Rattle.nn_bytes.specs.Runs.{fails}

-- A test of every number below n, which computes.
abbrev pub each_below : (ℕ → Bool) → ℕ → Bool
each_below p zero = true
each_below p (suc n) = p n && each_below p n

both : (a b : Bool) → T (a && b) → T a × T b
both true b h = (tt, h)
both false b h = absurd h

pub below_passes : (p : ℕ → Bool) (n : ℕ) → T (each_below p n) → (i : ℕ) → i < n → T (p i)
below_passes p zero h i lt = absurd (not-suc-le-zero lt)
below_passes p (suc n) h i lt = at (below_passes p n (both (p n) (each_below p n) h).1 i) (cases_order i n)
  where
    at : (i < n → T (p i)) → (i ≡ n) ⊎ ((i < n) ⊎ (n < i)) → T (p i)
    at below (inl e) = subst (λ x. T (p x)) (sym e) (both (p n) (each_below p n) h).0
    at below (inr (inl l)) = below l
    at below (inr (inr g)) = absurd (omega (arith, lt, g))

abbrev pub same : Bool → Bool → Bool
same true b = b
same false b = not b

pub same_is : (a b : Bool) → T (same a b) → a ≡ b
same_is true true h = refl
same_is false false h = refl
same_is true false h = absurd h
same_is false true h = absurd h

-- What a comparison writes into a lane.
abbrev pub hit : ℕ → ℕ → ℕ
hit a b = cond (eqb a b) 255 0

abbrev pub at_most : ℕ → ℕ → ℕ
at_most a b = cond (leb a b) 255 0

each_byte : (f : ℕ → ℕ) (p : ℕ → Bool) → T (each_below (λ x. same (top 7 (f x)) (p x)) 256) → (v : List ℕ) → Each1 (Fits w8) v → map (top 7) (map f v) ≡ map p v
each_byte f p all [] fits = refl
each_byte f p all (x ∷ xs) fits = ap₂ (λ a b. a ∷ b) (same_is _ _ (below_passes (λ y. same (top 7 (f y)) (p y)) 256 all x fits.0.fits)) (each_byte f p all xs fits.1)

pub masked : (f : ℕ → ℕ) (p : ℕ → Bool) (v lanes : List ℕ) → length v ≤ 64 → Each1 (Fits w8) v → lanes ≡ map f v → T (each_below (λ x. same (top 7 (f x)) (p x)) 256)
    → mask_l (map (top 7) lanes) % 2 ^ 64 ≡ mask_l (map p v)
masked f p v lanes short fits e all =
    ap (λ l. mask_l l % 2 ^ 64) (ap (map (top 7)) e ∙ each_byte f p all v fits) ∙ mask_l-mod (map p v) 64 (omega (arith, length-map v p, short))

-- ---- The run before the first byte that fails.

same_run : (p : ℕ → Bool) (xs : List ℕ) → prefix_len (λ x. not (fails p x)) xs ≡ prefix_len p xs
same_run p [] = refl
same_run p (x ∷ xs) = ap₂ (λ b n. cond b (1 + n) 0) (twice (p x)) (same_run p xs)
  where
    twice : (b : Bool) → not (not b) ≡ b
    twice true = refl
    twice false = refl

pub run_before_failing : (p : ℕ → Bool) (xs : List ℕ) (m : ℕ) → length xs ≡ 16 → m ≡ mask_l (map (fails p) xs) → cond (m == 0) 16 (count_trailing_zeros 64 m) ≡ prefix_len p xs
run_before_failing p xs m long is = ap (λ k. cond (k == 0) 16 (count_trailing_zeros 64 k)) is ∙ first_set_mask_l (fails p) xs 16 long (omega arith) ∙ same_run p xs
