-- What a directory has at a path is what the child of that path's first name has at the rest.
use Rattle.std.proofs.Common.{◌≡◌, ℕ, true, false, cond, List, [], ◌∷◌, ◌++◌, Option, Some, None, refl, ap, ◌∙◌}
use Rattle.std.specs.declared.cmp.Ordering.{Ordering}
use Rattle.std.specs.declared.cmp.Ordering.TheVariants.{Less, Equal, Greater}
use Rattle.std.specs.Ordering.{is_eq, ordering_then}
use Rattle.std.specs.Cmp.Lexicographic.{nat_list_cmp_total}
use Rattle.std.specs.BTreeMap.{is_at}
use Rattle.std.specs.Map.{lookup, keys_of}
use Rattle.std.specs.List.{AllByRecursion}
use Rattle.std.specs.List.Sorted.{IsStrictlySortedBy}
use Rattle.std.proofs.lemmas.Map.Keys.{sorted_head, sorted_tail}
use Rattle.nn_model.specs.declared.form.Form.{Form}
use Rattle.nn_model.specs.Namespace.{Path, path_cmp}
use Rattle.nn_tree.specs.Flat.{under, below}
use Rattle.nn_tree.specs.At.{at, rows}
use Rattle.nn_tree.specs.Name.{name_cmp}

abbrev pub or_else : {X : Type 0} → Option X → Option X → Option X
or_else None b = b
or_else (Some x) b = Some x

pub at-append : (xs ys : List (Path × Form)) (q : Path) → at (xs ++ ys) q ≡ or_else (at xs q) (at ys q)
at-append [] ys q = refl
at-append (x ∷ xs) ys q =
    elim (is_eq (path_cmp q x.0)) as (λ b. cond b (Some x.1) (at (xs ++ ys) q) ≡ or_else (cond b (Some x.1) (at xs q)) (at ys q)) [ true ↦ refl | false ↦ at-append xs ys q ]

pub at-under-same : (n k : List ℕ) (ns : Path) (v : List (Path × Form)) → name_cmp n k ≡ Equal → at (under k v) (n ∷ ns) ≡ at v ns
at-under-same n k ns [] h = refl
at-under-same n k ns (e ∷ es) h =
    ap (λ o. cond (is_eq (ordering_then o (path_cmp ns e.0))) (Some e.1) (at (under k es) (n ∷ ns))) h
    ∙ ap (λ r. cond (is_eq (path_cmp ns e.0)) (Some e.1) r) (at-under-same n k ns es h)

not_eq_then : (o r : Ordering) → is_eq o ≡ false → is_eq (ordering_then o r) ≡ false
not_eq_then Less r h = refl
not_eq_then Equal r h = cc
not_eq_then Greater r h = refl

pub at-under-other : (n k : List ℕ) (ns : Path) (v : List (Path × Form)) → is_eq (name_cmp n k) ≡ false → at (under k v) (n ∷ ns) ≡ None
at-under-other n k ns [] h = refl
at-under-other n k ns (e ∷ es) h =
    ap (λ b. cond b (Some e.1) (at (under k es) (n ∷ ns))) (not_eq_then (name_cmp n k) (path_cmp ns e.0) h)
    ∙ at-under-other n k ns es h

-- a name that ties with one below y isn't y
pub apart : (n k y : List ℕ) → name_cmp n k ≡ Equal → name_cmp k y ≡ Less → is_eq (name_cmp n y) ≡ false
apart n k y h l = ap is_eq (nat_list_cmp_total.congr n k y h ∙ l)

none_later : (n : List ℕ) (ns : Path) (k : List ℕ) (cs : List (List ℕ × List (Path × Form))) → name_cmp n k ≡ Equal → AllByRecursion (λ y. name_cmp k y ≡ Less) (keys_of cs) → at (below cs) (n ∷ ns) ≡ None
none_later n ns k [] h a = refl
none_later n ns k (c ∷ cs) h a =
    at-append (under c.0 c.1) (below cs) (n ∷ ns)
    ∙ ap (λ r. or_else r (at (below cs) (n ∷ ns))) (at-under-other n c.0 ns c.1 (apart n k c.0 h a.0))
    ∙ none_later n ns k cs h a.1

or_None : {X : Type 0} (o : Option X) → or_else o None ≡ o
or_None None = refl
or_None (Some x) = refl

pub at-below : (n : List ℕ) (ns : Path) (cs : List (List ℕ × List (Path × Form))) → IsStrictlySortedBy name_cmp (keys_of cs) → at (below cs) (n ∷ ns) ≡ rows (lookup (is_at (name_cmp n)) cs) ns
at-below n ns [] s = refl
at-below n ns (c ∷ cs) s =
    at-append (under c.0 c.1) (below cs) (n ∷ ns)
    ∙ elim (name_cmp n c.0) as (λ o. name_cmp n c.0 ≡ o → or_else (at (under c.0 c.1) (n ∷ ns)) (at (below cs) (n ∷ ns)) ≡ rows (cond (is_eq o) (Some c.1) (lookup (is_at (name_cmp n)) cs)) ns) [
      | Less ↦ λ h. ap (λ r. or_else r (at (below cs) (n ∷ ns))) (at-under-other n c.0 ns c.1 (ap is_eq h)) ∙ at-below n ns cs (sorted_tail name_cmp _ _ s)
      | Equal ↦ λ h. ap (λ r. or_else (at (under c.0 c.1) (n ∷ ns)) r) (none_later n ns c.0 cs h (sorted_head name_cmp _ _ s)) ∙ or_None _ ∙ at-under-same n c.0 ns c.1 h
      | Greater ↦ λ h. ap (λ r. or_else r (at (below cs) (n ∷ ns))) (at-under-other n c.0 ns c.1 (ap is_eq h)) ∙ at-below n ns cs (sorted_tail name_cmp _ _ s)
    ] refl
