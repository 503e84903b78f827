-- The ids that no file has got yet, as the keys of a set.
use Rattle.std.proofs.Common.{inl, inr, ◌≡◌, ℕ, ◌<◌, ◌^◌, true, false, cond, not, ◌||◌, List, [], ◌∷◌, ◌++◌, refl, sym, ap, subst, ◌∙◌, arith}
use Rattle.std.specs.Prelude.{◌==◌, filter}
use Rattle.std.specs.List.{AllByRecursion, list_any}
use Rattle.std.specs.List.Sorted.{IsStrictlySortedBy}
use Rattle.std.specs.declared.cmp.Ordering.TheVariants.{Less, Greater}
use Rattle.std.specs.Ordering.{is_eq, nat_cmp, match_ordering}
use Rattle.std.specs.BTreeMap.{is_at}
use Rattle.std.specs.BTreeSet.{insert_key}
use Rattle.std.specs.Cmp.{nat_cmp_is}
use Rattle.std.specs.FinMap.{nat_cmp-IsAntisymmetric}
use Rattle.std.specs.Set.{remove_key}
use Rattle.std.proofs.lemmas.Bool.{both_ways, cases_Bool, eqb-true, eq-eqb, or_left, or_right, false_from_ne_true}
use Rattle.std.proofs.lemmas.Cmp.{nat_cmp_total, tied_itself}
use Rattle.std.proofs.lemmas.Map.Keys.{sorted_head, sorted_tail}
use Rattle.nn_model.specs.Apply.{has_id}
use Rattle.nn_model.specs.Namespace.{Namespace}
use Rattle.nn_model.specs.WellFormed.{IsWellFormed}
use Rattle.nn_model.proofs.Prefixes.{equal}
use Rattle.nn_tree.specs.Issued.{AreBelow}

-- ---- one among them
pub tied : (i k : ℕ) → is_eq (nat_cmp i k) ≡ (k == i)
tied i k = elim (k == i) as (λ b. (k == i) ≡ b → is_eq (nat_cmp i k) ≡ b) [
  | true ↦ λ h. ap (λ x. is_eq (nat_cmp i x)) (eqb-true k i h) ∙ ap is_eq (tied_itself nat_cmp_total i)
  | false ↦ λ h. false_from_ne_true (is_eq (nat_cmp i k)) (λ e. both_ways _ h (eq-eqb k i (sym (nat_cmp-IsAntisymmetric i k (equal (nat_cmp i k) e)))))
] refl

pub has_is : (ks : List ℕ) (i : ℕ) → list_any (is_at (nat_cmp i)) ks ≡ has_id ks i
has_is [] i = refl
has_is (k ∷ ks) i = ap (λ b. b || list_any (is_at (nat_cmp i)) ks) (tied i k) ∙ ap (λ b. (k == i) || b) (has_is ks i)

stands_here : (xs ys : List ℕ) (k : ℕ) → has_id (xs ++ k ∷ ys) k ≡ true
stands_here [] ys k = or_left (k == k) (has_id ys k) (eq-eqb k k refl)
stands_here (x ∷ xs) ys k = or_right (x == k) (has_id (xs ++ k ∷ ys) k) (stands_here xs ys k)

-- what stands among ids below a bound is below it
pub below_bound : (bound : ℕ) (ids xs ys : List ℕ) (k : ℕ) → AreBelow bound ids → xs ++ k ∷ ys ≡ ids → k < bound
below_bound bound ids xs ys k below e = below k (ap (λ ks. has_id ks k) (sym e) ∙ stands_here xs ys k)

-- the ids of a namespace are numbers
pub awaiting_numbers : (n : Namespace) → IsWellFormed n → AreBelow (2 ^ 63) n.issued.awaiting
awaiting_numbers n w k waits = omega (arith, (w.blocks.awaiting_from k waits).1, w.last_block_to)

-- ---- one more, above the others
pub insert_last : (ks : List ℕ) (i : ℕ) → AreBelow i ks → insert_key nat_cmp ks i ≡ ks ++ i ∷ []
insert_last [] i below = refl
insert_last (k ∷ ks) i below =
    ap (λ o. match_ordering o (i ∷ k ∷ ks) (k ∷ ks) (k ∷ insert_key nat_cmp ks i)) (sym (nat_cmp_is i k Greater (below k (or_left (k == k) (has_id ks k) (eq-eqb k k refl)))))
    ∙ ap (λ r. k ∷ r) (insert_last ks i (λ j h. below j (or_right (k == j) (has_id ks j) h)))

-- ---- one less
others : (ks : List ℕ) (i : ℕ) → AllByRecursion (λ y. nat_cmp i y ≡ Less) ks → filter (λ k. not (k == i)) ks ≡ ks
others [] i a = refl
others (k ∷ ks) i a = ap (λ b. cond (not b) (k ∷ filter (λ j. not (j == i)) ks) (filter (λ j. not (j == i)) ks)) (sym (tied i k) ∙ ap is_eq a.0) ∙ ap (λ r. k ∷ r) (others ks i a.1)

pub without_id : (ks : List ℕ) (i : ℕ) → IsStrictlySortedBy nat_cmp ks → remove_key (is_at (nat_cmp i)) ks ≡ filter (λ k. not (k == i)) ks
without_id [] i s = refl
without_id (k ∷ ks) i s =
    ap (λ b. cond b ks (k ∷ remove_key (is_at (nat_cmp i)) ks)) (tied i k)
    ∙ elim (cases_Bool (k == i)) [
      | inl e ↦ ap (λ b. cond b ks (k ∷ remove_key (is_at (nat_cmp i)) ks)) e ∙ sym (others ks i (subst (λ x. AllByRecursion (λ y. nat_cmp x y ≡ Less) ks) (eqb-true k i e) (sorted_head nat_cmp _ _ s)))
          ∙ sym (ap (λ b. cond (not b) (k ∷ filter (λ j. not (j == i)) ks) (filter (λ j. not (j == i)) ks)) e)
      | inr e ↦ ap (λ b. cond b ks (k ∷ remove_key (is_at (nat_cmp i)) ks)) e ∙ ap (λ r. k ∷ r) (without_id ks i (sorted_tail nat_cmp _ _ s))
          ∙ sym (ap (λ b. cond (not b) (k ∷ filter (λ j. not (j == i)) ks) (filter (λ j. not (j == i)) ks)) e)
    ]
