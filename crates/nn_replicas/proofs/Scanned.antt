-- Where the cell of a DataNode stands, and where a new one goes.
use Rattle.std.proofs.Common.{◌≡◌, ℕ, suc, ◌<◌, ◌≤◌, Bool, true, false, cond, List, [], ◌∷◌, length, get_or, set, Some, None, is_some, refl, sym, ap, ◌∙◌, arith, nat_lt, nat_eq, nat_cmp, ltb-true, ltb-false, eqb-true}
use Rattle.std.proofs.lemmas.Bool.{eqb-false}
use Rattle.std.specs.List.{insert}
use Rattle.std.specs.declared.cmp.Ordering.{Ordering}
use Rattle.std.specs.declared.cmp.Ordering.TheVariants.{Less, Equal, Greater}
use Rattle.std.specs.Ordering.{is_eq, MatchOrdering}
use Rattle.std.specs.Cmp.{nat_cmp_is}
use Rattle.std.specs.FinMap.Entries.{by_order, find, put, is_sorted}
use Rattle.nn_replicas.specs.declared.entry.Cell.{Cell}
use Rattle.nn_replicas.specs.Entry.{no_cell}
use Rattle.nn_replicas.specs.Scan.{place, is_here}
use Rattle.nn_replicas.proofs.Entries.{absent, tail_sorted}

-- the order of two numbers, by the tests that the code makes
abbrev tested : Bool → Bool → Ordering
tested true same = Greater
tested false true = Equal
tested false false = Less

tested_by : (dn k : ℕ) → nat_cmp dn k ≡ tested (nat_lt k dn) (nat_eq k dn)
tested_by dn k = sym (nat_cmp_is dn k (tested (nat_lt k dn) (nat_eq k dn)) (cases (nat_lt k dn) (nat_eq k dn) refl refl))
  where
    cases : (below same : Bool) → nat_lt k dn ≡ below → nat_eq k dn ≡ same → MatchOrdering (tested below same) (dn < k) (dn ≡ k) (k < dn)
    cases true same l e = ltb-true k dn l
    cases false true l e = sym (eqb-true k dn e)
    cases false false l e = let apart = eqb-false k dn e in omega (arith, ltb-false k dn l, apart)

branch : {A : Type 0} (below same : Bool) (a b c : A) → by_order (tested below same) a b c ≡ cond below c (cond same b a)
branch true same a b c = refl
branch false true a b c = refl
branch false false a b c = refl

hit : {A : Type 0} (below same : Bool) (a b : A) → cond (is_eq (tested below same)) a b ≡ cond below b (cond same a b)
hit true same a b = refl
hit false true a b = refl
hit false false a b = refl

put_by : (dn : ℕ) (c : Cell) (x : ℕ × Cell) (xs : List (ℕ × Cell)) → put nat_cmp dn c (x ∷ xs) ≡ cond (nat_lt x.0 dn) (x ∷ put nat_cmp dn c xs) (cond (nat_eq x.0 dn) ((x.0, c) ∷ xs) ((dn, c) ∷ x ∷ xs))
put_by dn c x xs =
    ap (λ o. by_order o ((dn, c) ∷ x ∷ xs) ((x.0, c) ∷ xs) (x ∷ put nat_cmp dn c xs)) (tested_by dn x.0)
    ∙ branch (nat_lt x.0 dn) (nat_eq x.0 dn) ((dn, c) ∷ x ∷ xs) ((x.0, c) ∷ xs) (x ∷ put nat_cmp dn c xs)

find_by : (dn : ℕ) (x : ℕ × Cell) (xs : List (ℕ × Cell)) → find nat_cmp dn (x ∷ xs) ≡ cond (nat_lt x.0 dn) (find nat_cmp dn xs) (cond (nat_eq x.0 dn) (Some x.1) (find nat_cmp dn xs))
find_by dn x xs = ap (λ o. cond (is_eq o) (Some x.1) (find nat_cmp dn xs)) (tested_by dn x.0) ∙ hit (nat_lt x.0 dn) (nat_eq x.0 dn) (Some x.1) (find nat_cmp dn xs)

pub place_le : (dn : ℕ) (xs : List (ℕ × Cell)) → place dn xs ≤ length xs
place_le dn [] = omega arith
place_le dn (x ∷ xs) = elim (nat_lt x.0 dn) as (λ b. cond b (suc (place dn xs)) 0 ≤ suc (length xs)) [ true ↦ omega (arith, place_le dn xs) | false ↦ omega arith ]

pub here_below : (dn : ℕ) (xs : List (ℕ × Cell)) → is_here dn xs ≡ true → place dn xs < length xs
here_below dn [] h = cc
here_below dn (x ∷ xs) h =
    elim (nat_lt x.0 dn) as (λ b. cond b (is_here dn xs) (nat_eq x.0 dn) ≡ true → cond b (suc (place dn xs)) 0 < suc (length xs)) [ true ↦ λ g. omega (arith, here_below dn xs g) | false ↦ λ g. omega arith ] h

pub here_at : (dn : ℕ) (xs : List (ℕ × Cell)) (d : ℕ × Cell) → place dn xs < length xs → nat_eq (get_or xs (place dn xs) d).0 dn ≡ is_here dn xs
here_at dn [] d h = absurd (omega arith)
here_at dn (x ∷ xs) d h =
    elim (nat_lt x.0 dn) as (λ b. cond b (suc (place dn xs)) 0 < suc (length xs) → nat_eq (get_or (x ∷ xs) (cond b (suc (place dn xs)) 0) d).0 dn ≡ cond b (is_here dn xs) (nat_eq x.0 dn)) [
      | true ↦ λ g. here_at dn xs d (omega arith)
      | false ↦ λ g. refl
    ] h

pub not_here : (dn : ℕ) (xs : List (ℕ × Cell)) → length xs ≤ place dn xs → is_here dn xs ≡ false
not_here dn [] h = refl
not_here dn (x ∷ xs) h =
    elim (nat_lt x.0 dn) as (λ b. suc (length xs) ≤ cond b (suc (place dn xs)) 0 → cond b (is_here dn xs) (nat_eq x.0 dn) ≡ false) [
      | true ↦ λ g. not_here dn xs (omega arith)
      | false ↦ λ g. absurd (omega arith)
    ] h

-- a put where the DataNode has a cell writes it
pub put_here : (dn : ℕ) (c : Cell) (xs : List (ℕ × Cell)) (d : ℕ × Cell) → is_here dn xs ≡ true → put nat_cmp dn c xs ≡ set xs (place dn xs) ((get_or xs (place dn xs) d).0, c)
put_here dn c [] d h = cc
put_here dn c (x ∷ xs) d h =
    put_by dn c x xs
    ∙ elim (nat_lt x.0 dn) as (λ b. cond b (is_here dn xs) (nat_eq x.0 dn) ≡ true → cond b (x ∷ put nat_cmp dn c xs) (cond (nat_eq x.0 dn) ((x.0, c) ∷ xs) ((dn, c) ∷ x ∷ xs)) ≡ set (x ∷ xs) (cond b (suc (place dn xs)) 0) ((get_or (x ∷ xs) (cond b (suc (place dn xs)) 0) d).0, c)) [
      | true ↦ λ g. ap (λ z. x ∷ z) (put_here dn c xs d g)
      | false ↦ λ g. ap (λ e. cond e ((x.0, c) ∷ xs) ((dn, c) ∷ x ∷ xs)) g
    ] h

-- and where it has none inserts one
pub put_new : (dn : ℕ) (c : Cell) (xs : List (ℕ × Cell)) → is_here dn xs ≡ false → put nat_cmp dn c xs ≡ insert xs (place dn xs) (dn, c)
put_new dn c [] h = refl
put_new dn c (x ∷ xs) h =
    put_by dn c x xs
    ∙ elim (nat_lt x.0 dn) as (λ b. cond b (is_here dn xs) (nat_eq x.0 dn) ≡ false → cond b (x ∷ put nat_cmp dn c xs) (cond (nat_eq x.0 dn) ((x.0, c) ∷ xs) ((dn, c) ∷ x ∷ xs)) ≡ insert (x ∷ xs) (cond b (suc (place dn xs)) 0) (dn, c)) [
      | true ↦ λ g. ap (λ z. x ∷ z) (put_new dn c xs g)
      | false ↦ λ g. ap (λ e. cond e ((x.0, c) ∷ xs) ((dn, c) ∷ x ∷ xs)) g
    ] h

pub find_here : (dn : ℕ) (xs : List (ℕ × Cell)) (d : ℕ × Cell) → is_here dn xs ≡ true → find nat_cmp dn xs ≡ Some (get_or xs (place dn xs) d).1
find_here dn [] d h = cc
find_here dn (x ∷ xs) d h =
    find_by dn x xs
    ∙ elim (nat_lt x.0 dn) as (λ b. cond b (is_here dn xs) (nat_eq x.0 dn) ≡ true → cond b (find nat_cmp dn xs) (cond (nat_eq x.0 dn) (Some x.1) (find nat_cmp dn xs)) ≡ Some (get_or (x ∷ xs) (cond b (suc (place dn xs)) 0) d).1) [
      | true ↦ λ g. find_here dn xs d g
      | false ↦ λ g. ap (λ e. cond e (Some x.1) (find nat_cmp dn xs)) g
    ] h

pub find_gone : (dn : ℕ) (xs : List (ℕ × Cell)) → is_sorted nat_cmp xs ≡ true → is_here dn xs ≡ false → find nat_cmp dn xs ≡ None
find_gone dn [] s h = refl
find_gone dn (x ∷ xs) s h =
    find_by dn x xs
    ∙ elim (nat_lt x.0 dn) as (λ b. nat_lt x.0 dn ≡ b → cond b (is_here dn xs) (nat_eq x.0 dn) ≡ false → cond b (find nat_cmp dn xs) (cond (nat_eq x.0 dn) (Some x.1) (find nat_cmp dn xs)) ≡ None) [
      | true ↦ λ l g. find_gone dn xs (tail_sorted x xs s) g
      | false ↦ λ l g.
          let less : nat_cmp dn x.0 ≡ Less = tested_by dn x.0 ∙ ap (λ b. tested b (nat_eq x.0 dn)) l ∙ ap (tested false) g in
          ap (λ e. cond e (Some x.1) (find nat_cmp dn xs)) g ∙ absent dn x xs less s
    ] refl h

-- it is here where it is found
pub here_found : (dn : ℕ) (xs : List (ℕ × Cell)) → is_sorted nat_cmp xs ≡ true → is_here dn xs ≡ is_some (find nat_cmp dn xs)
here_found dn xs s = cases (is_here dn xs) refl
  where
    cases : (b : Bool) → is_here dn xs ≡ b → is_here dn xs ≡ is_some (find nat_cmp dn xs)
    cases true h = h ∙ sym (ap is_some (find_here dn xs (dn, no_cell) h))
    cases false h = h ∙ sym (ap is_some (find_gone dn xs s h))
