-- Namespaces that answer alike are equal, and the root alone is well formed.
use Rattle.std.proofs.Common.{◌≡◌, ℕ, ◌<◌, ◌≤◌, Bool, true, false, cond, ◌||◌, List, [], ◌∷◌, ◌++◌, Some, None, refl, sym, ap, ◌∙◌, inl, inr, arith, lit<}
use Rattle.std.proofs.Common.{ltb}
use Rattle.std.specs.Prelude.{◌==◌, is_some}
use Rattle.std.specs.List.{AllByRecursion}
use Rattle.std.specs.List.Sorted.{IsStrictlySortedBy}
use Rattle.std.specs.Ordering.{nat_cmp}
use Rattle.std.specs.declared.cmp.Ordering.TheVariants.{Less, Equal, Greater}
use Rattle.std.proofs.lemmas.Bool.{both_ways, or_cases, or_left, eqb-true, eq-eqb, ne_eqb, ltb-true, cases_Bool, cases_eq, false_from_ne_true}
use Rattle.nn_model.specs.declared.form.Form.TheVariants.{Dir, File}
use Rattle.nn_model.specs.declared.form.FileRow.{FileRow}
use Rattle.nn_model.specs.Namespace.{Path, Namespace, lookup, root_alone}
use Rattle.nn_model.specs.Apply.{has_id}
use Rattle.nn_model.specs.WellFormed.{HasWellFormedBlocks, IsWellFormed}
use Rattle.nn_model.proofs.Lookups.{same_rows}
use Rattle.nn_model.proofs.Wells.{to_T}

-- ---- ids in order with the same ids among them

less_than : (x y : ℕ) → nat_cmp x y ≡ Less → x < y
less_than x y less = elim (cases_Bool (ltb x y)) [
  | inl below ↦ ltb-true x y below
  | inr not_below ↦ absurd (not_less (x == y) (sym (ap (λ b. cond b Less (cond (x == y) Equal Greater)) not_below) ∙ less))
]
  where
    not_less : (tied : Bool) → cond tied Equal Greater ≡ Less → ⊥
    not_less true e = cc
    not_less false e = cc

above : (x id : ℕ) (ids : List ℕ) → AllByRecursion (λ y. nat_cmp x y ≡ Less) ids → has_id ids id ≡ true → x < id
above x id [] all has = absurd (both_ways _ refl has)
above x id (y ∷ ids) all has = elim (or_cases (y == id) (has_id ids id) has) [
  | inl here ↦ (let e = eqb-true _ _ here in let below = less_than x y all.0 in omega arith)
  | inr later ↦ above x id ids all.1 later
]

itself : (x : ℕ) (ids : List ℕ) → has_id (x ∷ ids) x ≡ true
itself x ids = or_left (x == x) (has_id ids x) (eq-eqb x x refl)

first_no_more : (x y : ℕ) (ids : List ℕ) → AllByRecursion (λ z. nat_cmp y z ≡ Less) ids → has_id (y ∷ ids) x ≡ true → y ≤ x
first_no_more x y ids all has = elim (or_cases (y == x) (has_id ids x) has) [
  | inl here ↦ (let e = eqb-true _ _ here in omega arith)
  | inr later ↦ (let below = above y x ids all later in omega arith)
]

or_rest : (a b c d : Bool) → a ≡ false → c ≡ false → (a || b) ≡ (c || d) → b ≡ d
or_rest a b c d no_a no_c e = sym (ap (λ t. t || b) no_a) ∙ e ∙ ap (λ t. t || d) no_c

same_ids : (xs ys : List ℕ) → IsStrictlySortedBy nat_cmp xs → IsStrictlySortedBy nat_cmp ys → ((id : ℕ) → has_id xs id ≡ has_id ys id) → xs ≡ ys
unfolding IsStrictlySortedBy
same_ids [] [] sx sy same = refl
same_ids [] (y ∷ ys) sx sy same = absurd (both_ways _ (sym (same y)) (itself y ys))
same_ids (x ∷ xs) [] sx sy same = absurd (both_ways _ (same x) (itself x xs))
same_ids (x ∷ xs) (y ∷ ys) sx sy same =
    let low : y ≤ x = first_no_more x y ys sy.0 (sym (same x) ∙ itself x xs) in
    let high : x ≤ y = first_no_more y x xs sx.0 (same y ∙ itself y ys) in
    let first : x ≡ y = omega arith in
    let rest : xs ≡ ys = same_ids xs ys sx.1 sy.1 (λ id. elim (cases_eq x id) [
      | inl here ↦ (let not_after : (z : ℕ) (zs : List ℕ) → z ≡ id → AllByRecursion (λ w. nat_cmp z w ≡ Less) zs → has_id zs id ≡ false =
          λ z zs e all. false_from_ne_true _ (λ has. absurd (let below = above z id zs all has in omega arith)) in
          not_after x xs here sx.0 ∙ sym (not_after y ys (sym first ∙ here) sy.0))
      | inr other ↦ or_rest (x == id) (has_id xs id) (y == id) (has_id ys id) (ne_eqb x id other) (ne_eqb y id (λ e. other (first ∙ e))) (same id)
    ]) in
    (λ j. first j ∷ rest j)

pub equal_look_ups : (n other : Namespace) → HasWellFormedBlocks n → HasWellFormedBlocks other → ((p : Path) → lookup n p ≡ lookup other p) →
    n.issued.last_block ≡ other.issued.last_block → n.issued.last_stamp ≡ other.issued.last_stamp → n.issued.profile ≡ other.issued.profile → ((id : ℕ) → has_id n.issued.awaiting id ≡ has_id other.issued.awaiting id) → n ≡ other
equal_look_ups n other w v look block stamp profile waits =
    let rows = same_rows n.rows other.rows (to_T _ w.in_order) (to_T _ v.in_order) look in
    let awaiting = same_ids n.issued.awaiting other.issued.awaiting w.awaiting_in_order v.awaiting_in_order waits in
    (λ j. record { rows = rows j; issued = record { last_block = block j; last_stamp = stamp j; awaiting = awaiting j; profile = profile j } })

-- ---- the root alone

root_blocks : HasWellFormedBlocks root_alone
unfolding IsStrictlySortedBy
root_blocks = record {
  in_order = refl;
  last_block_from = omega arith;
  awaiting_in_order = tt;
  awaiting_from = λ id waits. absurd (both_ways _ refl waits);
  once = λ id. omega arith;
  issued = λ b here. absurd here;
}

no_child : (p : Path) (name : List ℕ) → is_some (lookup root_alone (p ++ name ∷ [])) ≡ true → lookup root_alone p ≡ Some Dir
no_child [] name some = refl
no_child (x ∷ p) name some = absurd (both_ways _ refl some)

no_files : (p : Path) (file : FileRow) → lookup root_alone p ≡ Some (File file) → (1 ≤ file.replication) × (file.replication ≤ 512)
no_files [] file there = let e : Some Dir ≡ Some (File file) = there in absurd (cc)
no_files (x ∷ p) file there = let e : None ≡ Some (File file) = there in absurd (cc)

pub root_alone_is_well_formed : IsWellFormed root_alone
root_alone_is_well_formed = record {
  root = refl;
  parents = no_child;
  replications = no_files;
  blocks = root_blocks;
  last_block_to = lit< tt;
  last_stamp_from = omega arith;
  last_stamp_to = lit< tt;
}
