-- Paths that begin with a path.
use Rattle.std.proofs.Common.{◌≡◌, ℕ, ◌<◌, Bool, true, false, ◌&&◌, List, [], ◌∷◌, ◌++◌, length, drop, refl, sym, ap, subst, ◌∙◌, arith, length-append, inl, inr}
use Rattle.std.specs.Prelude.{nat_lt, bytes_eq}
use Rattle.std.specs.Ordering.{eq_by_cmp, is_eq, ordering_then}
use Rattle.std.specs.Cmp.Lexicographic.{nat_list_cmp_total}
use Rattle.std.specs.declared.cmp.Ordering.{Ordering}
use Rattle.std.specs.declared.cmp.Ordering.TheVariants.{Less, Equal, Greater}
use Rattle.std.proofs.lemmas.Bool.{and_parts, and_from, both_ways, lt-ltb, false_from_ne_true, cases_Bool}
use Rattle.std.proofs.lemmas.Cmp.{tied_itself}
use Rattle.std.proofs.lemmas.Slice.Eq.{bytes_eq-Decides}
use Rattle.nn_model.specs.Namespace.{Path, path_cmp, begins_with}
use Rattle.nn_model.proofs.Lookups.{paths_total, paths_apart}

-- whether two paths are one
abbrev pub same : Path → Path → Bool
same = eq_by_cmp path_cmp

pub equal : (o : Ordering) → is_eq o ≡ true → o ≡ Equal
equal Less h = absurd (both_ways _ refl h)
equal Equal h = refl
equal Greater h = absurd (both_ways _ refl h)

pub same_true : (p q : Path) → same p q ≡ true → p ≡ q
same_true p q h = paths_apart p q (equal (path_cmp p q) h)

pub same_self : (p : Path) → same p p ≡ true
same_self p = ap is_eq (tied_itself paths_total p)

pub same_from : (p q : Path) → p ≡ q → same p q ≡ true
same_from p q e = subst (λ x. same p x ≡ true) e (same_self p)

pub name_same : (a b : List ℕ) → bytes_eq a b ≡ true → a ≡ b
name_same a b h = (bytes_eq-Decides a b).0 h

pub name_self : (a : List ℕ) → bytes_eq a a ≡ true
name_self a = (bytes_eq-Decides a a).1 refl

-- ---- a path and a rest

pub begins_append : (s rest : Path) → begins_with s (s ++ rest) ≡ true
begins_append [] rest = refl
begins_append (name ∷ s) rest = and_from _ _ (name_self name) (begins_append s rest)

pub begins_self : (s : Path) → begins_with s s ≡ true
begins_self [] = refl
begins_self (name ∷ s) = and_from _ _ (name_self name) (begins_self s)

pub begins_split : (s q : Path) → begins_with s q ≡ true → q ≡ s ++ drop (length s) q
begins_split [] q h = refl
begins_split (name ∷ s) [] h = absurd (both_ways _ refl h)
begins_split (name ∷ s) (other ∷ q) h =
    let parts = and_parts (bytes_eq name other) (begins_with s q) h in
    ap (λ x. x ∷ q) (sym (name_same name other parts.0)) ∙ ap (λ rest. name ∷ rest) (begins_split s q parts.1)

-- what is below a path is below what that path begins with
pub begins_more : (s p rest : Path) → begins_with s p ≡ true → begins_with s (p ++ rest) ≡ true
begins_more [] p rest h = refl
begins_more (name ∷ s) [] rest h = absurd (both_ways _ refl h)
begins_more (name ∷ s) (other ∷ p) rest h =
    let parts = and_parts (bytes_eq name other) (begins_with s p) h in and_from _ _ parts.0 (begins_more s p rest parts.1)

-- a path that begins with s begins with it, or is it, without its last name
pub begins_last : (s p : Path) (name : List ℕ) → begins_with s (p ++ name ∷ []) ≡ true → begins_with s p ≡ false → s ≡ p ++ name ∷ []
begins_last [] p name h not_yet = absurd (both_ways _ not_yet refl)
begins_last (a ∷ []) [] name h not_yet = ap (λ x. x ∷ []) (name_same a name (and_parts (bytes_eq a name) true h).0)
begins_last (a ∷ b ∷ s) [] name h not_yet = absurd (both_ways _ refl (and_parts (bytes_eq a name) false h).1)
begins_last (a ∷ s) (b ∷ p) name h not_yet =
    let parts = and_parts (bytes_eq a b) (begins_with s (p ++ name ∷ [])) h in
    ap (λ x. x ∷ s) (name_same a b parts.0)
    ∙ ap (λ rest. b ∷ rest) (begins_last s p name parts.1 (sym (ap (λ t. t && begins_with s p) parts.0) ∙ not_yet))

-- where two paths begin one, the one begins the other
pub comparable : (a b rest : Path) → begins_with a (b ++ rest) ≡ true → begins_with a b ≡ false → begins_with b a ≡ true
comparable [] b rest h other = absurd (both_ways _ other refl)
comparable (n ∷ a) [] rest h other = refl
comparable (n ∷ a) (x ∷ b) rest h other =
    let parts = and_parts (bytes_eq n x) (begins_with a (b ++ rest)) h in
    and_from _ _ ((bytes_eq-Decides x n).1 (sym (name_same n x parts.0))) (comparable a b rest parts.1 (sym (ap (λ t. t && begins_with a b) parts.0) ∙ other))

pub longer : (s rest d : Path) (name : List ℕ) → d ≡ s ++ name ∷ rest → nat_lt (length s) (length d) ≡ true
longer s rest d name e = lt-ltb _ _ (subst (λ (x : Path). length s < length x) (sym e) (omega (arith, length-append s (name ∷ rest))))

-- ---- the test of a look-up

pub same_after : (p a b : Path) → same (p ++ a) (p ++ b) ≡ same a b
same_after [] a b = refl
same_after (name ∷ p) a b = ap (λ o. is_eq (ordering_then o (path_cmp (p ++ a) (p ++ b)))) (tied_itself nat_list_cmp_total name) ∙ same_after p a b

pub same_cons : (x n : List ℕ) (q p : Path) → same (x ∷ q) (n ∷ p) ≡ (bytes_eq n x && same q p)
same_cons x n q p = elim (cases_Bool (bytes_eq n x)) [
  | inl e ↦ ap (λ y. same (y ∷ q) (n ∷ p)) (sym (name_same n x e)) ∙ same_after (n ∷ []) q p ∙ sym (ap (λ b. b && same q p) e)
  | inr e ↦ false_from_ne_true _ (λ h. both_ways _ e ((bytes_eq-Decides n x).1 (let is = same_true (x ∷ q) (n ∷ p) h in (cc)))) ∙ sym (ap (λ b. b && same q p) e)
]

-- paths of which just one begins with s are two
pub apart_by : (s a b : Path) → begins_with s a ≡ true → begins_with s b ≡ false → same a b ≡ false
apart_by s a b below beside = false_from_ne_true _ (λ one. both_ways _ beside (sym (ap (begins_with s) (same_true a b one)) ∙ below))

pub apart_from : (s a b : Path) → begins_with s a ≡ false → begins_with s b ≡ true → same a b ≡ false
apart_from s a b beside below = false_from_ne_true _ (λ one. both_ways _ beside (ap (begins_with s) (same_true a b one) ∙ below))
