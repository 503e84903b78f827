-- Lists read by place, and places in a ring.
use Rattle.std.proofs.Common.{◌≡◌, ◌≢◌, ◌⊎◌, ℕ, zero, suc, ◌+◌, ◌*◌, ◌/◌, ◌%◌, ◌<◌, List, [], ◌∷◌, ◌++◌, length, Bool, true, false, refl, sym, ap, subst, inl, inr, ⊎_elim, arith}
use mathlib.Core.Option.{some, some-ne-none, some-injective}
use lib.ListN.{get_elem?}
use Rattle.atomic_table.proofs.Lists.{one_turn}
use Rattle.nn_lane.specs.Intake.{bit}

module _ {A : Type 0} where
  pub at_within : (l : List A) (k : ℕ) (a : A) → get_elem? l k ≡ some a → k < length l
  at_within [] k a e = absurd (some-ne-none a (sym e))
  at_within (x ∷ xs) zero a e = omega arith
  at_within (x ∷ xs) (suc k) a e = let h = at_within xs k a e in omega arith

  pub at_end : (l : List A) (a b : A) (k : ℕ) → get_elem? (l ++ a ∷ []) k ≡ some b → (get_elem? l k ≡ some b) ⊎ ((k ≡ length l) × (a ≡ b))
  at_end [] a b zero e = inr (refl, some-injective a b e)
  at_end [] a b (suc k) e = absurd (some-ne-none b (sym e))
  at_end (x ∷ xs) a b zero e = inl e
  at_end (x ∷ xs) a b (suc k) e = ⊎_elim (λ h. inl h) (λ h. inr (ap suc h.0, h.1)) (at_end xs a b k e)

  pub at_after : (l m : List A) (k : ℕ) (a : A) → get_elem? m k ≡ some a → get_elem? (l ++ m) (length l + k) ≡ some a
  at_after [] m k a e = subst (λ z. get_elem? m z ≡ some a) (let h : k ≡ 0 + k = omega arith in h) e
  at_after (x ∷ xs) m k a e = subst (λ z. get_elem? (x ∷ xs ++ m) z ≡ some a) (let h : suc (length xs + k) ≡ suc (length xs) + k = omega arith in h) (at_after xs m k a e)

  pub head_of : (l : List A) → 0 < length l → (a : A) × (rest : List A) × (l ≡ a ∷ rest)
  head_of [] h = absurd (omega arith)
  head_of (x ∷ xs) h = (x, xs, refl)

pub apart : (a b n : ℕ) → a < b → b < a + n → b % n ≢ a % n
apart a b n lt near e = let same = one_turn a b n (omega arith) near (sym e) in omega arith

pub half : (a : ℕ) (b : Bool) → (2 * a + bit b) / 2 ≡ a
half a true = omega arith
half a false = omega arith
