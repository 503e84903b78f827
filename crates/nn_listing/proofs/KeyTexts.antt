-- Texts of entries in the order of their keys: those of all keys of a range, where a key with no entry has none.
use Rattle.std.proofs.Common.{◌≡◌, ℕ, zero, suc, ◌+◌, ◌<◌, ◌≤◌, Bool, true, false, cond, List, [], ◌∷◌, ◌++◌, Option, Some, None, is_some, refl, sym}
use Rattle.std.proofs.Common.{ap, ◌∙◌, arith, nat_cmp, eqb-true, eq-eqb}
use Rattle.std.specs.Prelude.{◌==◌, flat_map}
use Rattle.std.specs.List.{cons_option, filter_map, range_with_len}
use Rattle.std.specs.declared.cmp.Ordering.TheVariants.{Less, Equal, Greater}
use Rattle.std.specs.FinMap.Entries.{find, is_sorted, below_all}
use Rattle.std.proofs.lemmas.Bool.{both_ways, ne_eqb, eqb-false, lt-ltb}
use Rattle.std.proofs.lemmas.Grind.{flat_map-append}
use Rattle.nn_replicas.proofs.Entries.{absent, find_below, halves, tail_sorted}
use Rattle.nn_replicas.proofs.Lookups.{eq_is}

-- ---- lists of texts

-- the text of what there is
abbrev pub given : {X A : Type 0} → (X → List A) → Option X → List A
given f None = []
given f (Some x) = f x

pub texts_of_some : {X Y A : Type 0} (f : Y → List A) (g : X → Option Y) (xs : List X)
    → flat_map f (filter_map g xs) ≡ flat_map (λ x. given f (g x)) xs
texts_of_some f g [] = refl
texts_of_some {Y = Y} f g (x ∷ xs) = cases (g x) ∙ ap (λ r. given f (g x) ++ r) (texts_of_some f g xs)
  where
    cases : (o : Option Y) → flat_map f (cons_option o (filter_map g xs)) ≡ given f o ++ flat_map f (filter_map g xs)
    cases None = refl
    cases (Some y) = refl

pub texts_of_lists : {X Y A : Type 0} (f : Y → List A) (g : X → List Y) (xs : List X)
    → flat_map f (flat_map g xs) ≡ flat_map (λ x. flat_map f (g x)) xs
texts_of_lists f g [] = refl
texts_of_lists f g (x ∷ xs) = flat_map-append f (g x) (flat_map g xs) ∙ ap (λ r. flat_map f (g x) ++ r) (texts_of_lists f g xs)

pub same_texts : {X A : Type 0} (f g : X → List A) (xs : List X) → ((x : X) → f x ≡ g x) → flat_map f xs ≡ flat_map g xs
same_texts f g xs h = ap (λ k. flat_map k xs) (λ i x. h x i)

pub no_texts : {X A : Type 0} (f : X → List A) (xs : List X) → ((x : X) → f x ≡ []) → flat_map f xs ≡ []
no_texts f [] h = refl
no_texts f (x ∷ xs) h = ap (λ r. r ++ flat_map f xs) (h x) ∙ no_texts f xs h

-- ---- entries

less_than : (k j : ℕ) → k < j → nat_cmp k j ≡ Less
less_than k j l = ap (λ b. cond b Less (cond (k == j) Equal Greater)) (lt-ltb k j l)

module _ {X : Type 0} where
  find_cons : (k : ℕ) (e : ℕ × X) (es : List (ℕ × X)) (same : Bool) → (k == e.0) ≡ same
      → find nat_cmp k (e ∷ es) ≡ cond same (Some e.1) (find nat_cmp k es)
  find_cons k e es same h = ap (λ b. cond b (Some e.1) (find nat_cmp k es)) (eq_is k e.0 ∙ h)

  find_first : (e : ℕ × X) (es : List (ℕ × X)) → find nat_cmp e.0 (e ∷ es) ≡ Some e.1
  find_first e es = find_cons e.0 e es true (eq-eqb e.0 e.0 refl)

  find_later : (k : ℕ) (e : ℕ × X) (es : List (ℕ × X)) → is_some (find nat_cmp k es) ≡ true → is_some (find nat_cmp k (e ∷ es)) ≡ true
  find_later k e es h = cases (k == e.0) refl
    where
      cases : (same : Bool) → (k == e.0) ≡ same → is_some (find nat_cmp k (e ∷ es)) ≡ true
      cases true q = ap is_some (find_cons k e es true q)
      cases false q = ap is_some (find_cons k e es false q) ∙ h

  -- all keys lie in the range
  abbrev pub Within : List (ℕ × X) → ℕ → ℕ → Type 0
  Within es start count = (k : ℕ) → is_some (find nat_cmp k es) ≡ true → (start ≤ k) × (k < start + count)

  -- one more than all keys, and more
  abbrev pub bound : List (ℕ × X) → ℕ
  bound [] = 0
  bound (e ∷ es) = e.0 + 1 + bound es

  pub below_bound : (k : ℕ) (es : List (ℕ × X)) → is_some (find nat_cmp k es) ≡ true → k < bound es
  below_bound k [] h = absurd (both_ways false refl h)
  below_bound k (e ∷ es) h = cases (below_bound k es) (k == e.0) refl
    where
      cases : (is_some (find nat_cmp k es) ≡ true → k < bound es) → (same : Bool) → (k == e.0) ≡ same → k < e.0 + 1 + bound es
      cases next true q = let is = eqb-true k e.0 q in omega (arith, is)
      cases next false q = let l = next (sym (ap is_some (find_cons k e es false q)) ∙ h) in omega (arith, l)

  -- a key at which nothing is found lies elsewhere
  apart : (k start : ℕ) (es : List (ℕ × X)) → find nat_cmp start es ≡ None → is_some (find nat_cmp k es) ≡ true → start ≤ k → start + 1 ≤ k
  apart k start es none h l = cases (start == k) refl
    where
      cases : (same : Bool) → (start == k) ≡ same → start + 1 ≤ k
      cases true q = absurd (both_ways _ (ap is_some (ap (λ j. find nat_cmp j es) (sym (eqb-true start k q)) ∙ none)) h)
      cases false q = let other = eqb-false start k q in omega (arith, other, l)

module _ {X A : Type 0} (text : ℕ → Option X → List A) (none : (k : ℕ) → text k None ≡ []) where
  abbrev entry_texts : List (ℕ × X) → List A
  entry_texts es = flat_map (λ e. text e.0 (Some e.1)) es

  abbrev key_texts : List (ℕ × X) → ℕ → ℕ → List A
  key_texts es start count = flat_map (λ k. text k (find nat_cmp k es)) (range_with_len start count)

  passed : (e : ℕ × X) (es : List (ℕ × X)) (count start : ℕ) → e.0 < start → key_texts (e ∷ es) start count ≡ key_texts es start count
  passed e es zero start l = refl
  passed e es (suc count) start l =
      ap (λ o. text start o ++ key_texts (e ∷ es) (start + 1) count) (find_cons start e es false (ne_eqb start e.0 (λ q. omega (arith, q, l))))
      ∙ ap (λ r. text start (find nat_cmp start es) ++ r) (passed e es count (start + 1) (omega (arith, l)))

  step : (count start : ℕ) (e : ℕ × X) (es : List (ℕ × X)) → is_sorted nat_cmp (e ∷ es) ≡ true → Within (e ∷ es) start (suc count)
      → ((fs : List (ℕ × X)) → is_sorted nat_cmp fs ≡ true → Within fs (start + 1) count → entry_texts fs ≡ key_texts fs (start + 1) count)
      → (same : Bool) → (start == e.0) ≡ same → entry_texts (e ∷ es) ≡ key_texts (e ∷ es) start (suc count)
  step count start e es s within next true q =
      let is = eqb-true start e.0 q in
      let gone : find nat_cmp start es ≡ None =
      ap (λ k. find nat_cmp k es) is ∙ find_below e.0 es (halves (below_all nat_cmp e.0 es) (is_sorted nat_cmp es) s).0 in
      let first : text start (find nat_cmp start (e ∷ es)) ≡ text e.0 (Some e.1) =
      ap (text start) (find_cons start e es true q) ∙ ap (λ k. text k (Some e.1)) is in
      let later : entry_texts es ≡ key_texts es (start + 1) count =
      next es (tail_sorted e es s) (λ k h. let range = within k (find_later k e es h) in (apart k start es gone h range.0, omega (arith, range.1))) in
      ap (λ r. text e.0 (Some e.1) ++ r) (later ∙ sym (passed e es count (start + 1) (omega (arith, is))))
      ∙ ap (λ r. r ++ key_texts (e ∷ es) (start + 1) count) (sym first)
  step count start e es s within next false q =
      let range = within e.0 (ap is_some (find_first e es)) in
      let other = eqb-false start e.0 q in
      let gone : find nat_cmp start (e ∷ es) ≡ None =
      find_cons start e es false q ∙ absent start e es (less_than start e.0 (omega (arith, range.0, other))) s in
      next (e ∷ es) s (λ k h. let r = within k h in (apart k start (e ∷ es) gone h r.0, omega (arith, r.1)))
      ∙ ap (λ r. r ++ key_texts (e ∷ es) (start + 1) count) (sym (ap (text start) gone ∙ none start))

  pub gathered : (count start : ℕ) (es : List (ℕ × X)) → is_sorted nat_cmp es ≡ true → Within es start count
      → entry_texts es ≡ key_texts es start count
  gathered zero start [] s within = refl
  gathered zero start (e ∷ es) s within = let range = within e.0 (ap is_some (find_first e es)) in absurd (omega (arith, range.0, range.1))
  gathered (suc count) start [] s within = sym (no_texts (λ k. text k None) (range_with_len start (suc count)) none)
  gathered (suc count) start (e ∷ es) s within = step count start e es s within (λ fs t w. gathered count (start + 1) fs t w) (start == e.0) refl
