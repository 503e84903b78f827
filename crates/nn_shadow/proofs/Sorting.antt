-- Notes that are sorted by their blocks, where those about one block stay in their order, say the same of each block.
use Rattle.std.proofs.Common.{◌≡◌, ℕ, zero, suc, ◌≤◌, ◌<◌, Bool, true, false, cond, List, [], ◌∷◌, length, Option, Some, None}
use Rattle.std.proofs.Common.{refl, sym, ap, subst, ◌∙◌, arith}
use Rattle.std.specs.Prelude.{◌==◌, not, nat_lt, filter, get_or, ◌&&◌, T}
use Rattle.std.specs.List.Sorted.{IsStrictlySortedBy, IsSortedByKey, IsStableByKey, IsNonDecreasingBy, ties}
use Rattle.std.specs.List.{AllByRecursion}
use Rattle.std.specs.Map.{keys_of, remove_entry}
use Rattle.std.specs.BTreeMap.{insert_entry, is_at}
use Rattle.std.specs.FinMap.Entries.{by_order, is_sorted, below_all, put, find, where_key, find-put, find-where_key, is_sorted-put, is_sorted-where_key, same_entries}
use Rattle.std.specs.Ordering.{nat_cmp, is_lt, is_eq, eq_by_cmp, ordering_reverse, match_ordering}
use Rattle.std.specs.declared.cmp.Ordering.{Ordering}
use Rattle.std.specs.declared.cmp.Ordering.TheVariants.{Less, Equal, Greater}
use Rattle.std.proofs.lemmas.Cmp.{nat_cmp_total}
use Rattle.std.proofs.lemmas.Map.Lookups.{exact_unsigned}
use Rattle.std.proofs.lemmas.Bool.{ltb-true}
use Rattle.std.proofs.lemmas.List.Sorted.{IsNonDecreasingBy-from_sort}
use Rattle.nn_shadow.specs.Notes.{with_note, with_notes, merged}
use Rattle.nn_shadow.proofs.Merging.{less, AllAfter, NoneBefore, Ascend, Rise, merged_is}

-- ---- the forms of order

lt_from_less : (x y : ℕ) → T (is_lt (nat_cmp x y)) → x < y
lt_from_less x y h = ltb-true x y (elim (nat_lt x y) as (λ t. T (is_lt (cond t Less (cond (x == y) Equal Greater))) → t ≡ true) [
  | true ↦ λ _. refl
  | false ↦ λ is. absurd (elim (x == y) as (λ t. T (is_lt (cond t Equal Greater)) → ⊥) [ true ↦ λ n. n | false ↦ λ n. n ] is)
] h)

halves : (a b : Bool) → T (a && b) → T a × T b
halves true b p = (tt, p)
halves false b p = absurd p

after_from : (x : ℕ) (es : List (ℕ × ℕ)) → T (below_all nat_cmp x es) → AllAfter x es
after_from x [] h = tt
after_from x (e ∷ es) h = let both = halves (is_lt (nat_cmp x e.0)) (below_all nat_cmp x es) h in (lt_from_less x e.0 both.0, after_from x es both.1)

pub ascend_from : (es : List (ℕ × ℕ)) → T (is_sorted nat_cmp es) → Ascend es
ascend_from [] h = tt
ascend_from (e ∷ es) h = let both = halves (below_all nat_cmp e.0 es) (is_sorted nat_cmp es) h in (after_from e.0 es both.0, ascend_from es both.1)

keys_after : (x : ℕ) (es : List (ℕ × ℕ)) → AllAfter x es → AllByRecursion (λ y. nat_cmp x y ≡ Less) (keys_of es)
keys_after x [] h = tt
keys_after x (e ∷ es) h = (less x e.0 h.0, keys_after x es h.1)

pub strictly_sorted : (es : List (ℕ × ℕ)) → Ascend es → IsStrictlySortedBy nat_cmp (keys_of es)
unfolding IsStrictlySortedBy
strictly_sorted [] h = tt
strictly_sorted (e ∷ es) h = (keys_after e.0 es h.0, strictly_sorted es h.1)

none_from : (x : ℕ) (es : List (ℕ × ℕ)) → ((k : ℕ) (d : ℕ × ℕ) → k < length es → x ≤ (get_or es k d).0) → NoneBefore x es
none_from x [] h = tt
none_from x (e ∷ es) h = (h zero e (omega arith), none_from x es (λ k d lt. h (suc k) d (omega (arith, lt))))

rise_from : (es : List (ℕ × ℕ)) → IsNonDecreasingBy (λ (note : ℕ × ℕ). note.0) es → Rise es
rise_from [] h = tt
rise_from (e ∷ es) h = (
  none_from e.0 es (λ k d lt. h zero (suc k) d (omega arith) (omega (arith, lt))),
  rise_from es (λ i j d le lt. h (suc i) (suc j) d (omega (arith, le)) (omega (arith, lt))),
)

-- ---- one note

insert_is_put : (es : List (ℕ × ℕ)) (k v : ℕ) → insert_entry nat_cmp es k v ≡ put nat_cmp k v es
insert_is_put [] k v = refl
insert_is_put (e ∷ es) k v =
    let later = insert_is_put es k v in
    elim (nat_cmp k e.0) as (λ o. match_ordering o ((k, v) ∷ e ∷ es) ((e.0, v) ∷ es) (e ∷ insert_entry nat_cmp es k v)
    ≡ by_order o ((k, v) ∷ e ∷ es) ((e.0, v) ∷ es) (e ∷ put nat_cmp k v es)) [
      | Less ↦ refl
      | Equal ↦ refl
      | Greater ↦ ap (λ l. e ∷ l) later
    ]

abbrev differs : ℕ → ℕ → Bool
differs k x = not (eq_by_cmp nat_cmp k x)

all_differ : (k : ℕ) (es : List (ℕ × ℕ)) → AllAfter k es → where_key nat_cmp (differs k) es ≡ es
all_differ k [] h = refl
all_differ k (e ∷ es) h =
    let kept = where_key nat_cmp (differs k) es in
    ap (λ o. cond (not (is_eq o)) (e ∷ kept) kept) (less k e.0 h.0) ∙ ap (λ l. e ∷ l) (all_differ k es h.1)

after_tied : (k x : ℕ) (es : List (ℕ × ℕ)) → eq_by_cmp nat_cmp k x ≡ true → AllAfter x es → AllAfter k es
after_tied k x es tie h = subst (λ y. AllAfter y es) (sym (exact_unsigned k x (equal (nat_cmp k x) tie))) h
  where
    equal : (o : Ordering) → is_eq o ≡ true → o ≡ Equal
    equal Equal p = refl
    equal Less p = absurd (subst (λ (b : Bool). cond b ⊥ (Unit {0})) p tt)
    equal Greater p = absurd (subst (λ (b : Bool). cond b ⊥ (Unit {0})) p tt)

remove_is_where : (k : ℕ) (es : List (ℕ × ℕ)) → Ascend es → remove_entry (is_at (nat_cmp k)) es ≡ where_key nat_cmp (differs k) es
remove_is_where k [] asc = refl
remove_is_where k (e ∷ es) asc =
    let kept = where_key nat_cmp (differs k) es in
    elim (eq_by_cmp nat_cmp k e.0) as (λ t. eq_by_cmp nat_cmp k e.0 ≡ t → cond t es (e ∷ remove_entry (is_at (nat_cmp k)) es) ≡ cond (not t) (e ∷ kept) kept) [
      | true ↦ λ tie. sym (all_differ k es (after_tied k e.0 es tie asc.0))
      | false ↦ λ other. ap (λ l. e ∷ l) (remove_is_where k es asc.1)
    ] refl

note_sorted : (has : List (ℕ × ℕ)) (note : ℕ × ℕ) → T (is_sorted nat_cmp has) → T (is_sorted nat_cmp (with_note has note))
note_sorted has note h = elim (note.1 == 0) as (λ d. T (is_sorted nat_cmp (cond d (remove_entry (is_at (nat_cmp note.0)) has) (insert_entry nat_cmp has note.0 note.1)))) [
  | true ↦ subst (λ l. T (is_sorted nat_cmp l)) (sym (remove_is_where note.0 has (ascend_from has h))) (is_sorted-where_key nat_cmp (differs note.0) has h)
  | false ↦ subst (λ l. T (is_sorted nat_cmp l)) (sym (insert_is_put has note.0 note.1)) (is_sorted-put nat_cmp nat_cmp_total note.0 note.1 has h)
]

pub notes_sorted : (has told : List (ℕ × ℕ)) → T (is_sorted nat_cmp has) → T (is_sorted nat_cmp (with_notes has told))
notes_sorted has [] h = h
notes_sorted has (note ∷ told) h = notes_sorted (with_note has note) told (note_sorted has note h)

-- ---- what is found of a block

-- whether the note is about it, as a sort by the block compares
abbrev about : ℕ → ℕ × ℕ → Bool
about block = ties (λ (x y : ℕ × ℕ). is_lt (nat_cmp x.0 y.0)) (block, 0)

abbrev number_told : ℕ × ℕ → Option ℕ
number_told note = cond (note.1 == 0) None (Some note.1)

-- after these notes about it
abbrev after : List (ℕ × ℕ) → Option ℕ → Option ℕ
after [] found = found
after (note ∷ told) found = after told (number_told note)

about_is : (q k v : ℕ) → about q (k, v) ≡ eq_by_cmp nat_cmp q k
about_is q k v =
    ap (λ o. not (is_lt (nat_cmp q k)) && not (is_lt o)) (nat_cmp_total.antisymm k q)
    ∙ elim (nat_cmp q k) as (λ o. (not (is_lt o) && not (is_lt (ordering_reverse o))) ≡ is_eq o) [ Less ↦ refl | Equal ↦ refl | Greater ↦ refl ]

tie_flip : (k q : ℕ) → eq_by_cmp nat_cmp k q ≡ eq_by_cmp nat_cmp q k
tie_flip k q = ap is_eq (nat_cmp_total.antisymm k q) ∙ elim (nat_cmp q k) as (λ o. is_eq (ordering_reverse o) ≡ is_eq o) [ Less ↦ refl | Equal ↦ refl | Greater ↦ refl ]

find_note : (q : ℕ) (has : List (ℕ × ℕ)) (note : ℕ × ℕ) → T (is_sorted nat_cmp has) →
    find nat_cmp q (with_note has note) ≡ cond (about q note) (number_told note) (find nat_cmp q has)
find_note q has note h =
    let found = find nat_cmp q has in
    elim (note.1 == 0) as (λ d. find nat_cmp q (cond d (remove_entry (is_at (nat_cmp note.0)) has) (insert_entry nat_cmp has note.0 note.1))
    ≡ cond (eq_by_cmp nat_cmp q note.0) (cond d None (Some note.1)) found) [
      | true ↦ ap (find nat_cmp q) (remove_is_where note.0 has (ascend_from has h))
          ∙ find-where_key nat_cmp (differs note.0) q (λ x tie. ap (differs note.0) (sym (exact_unsigned q x tie))) has
          ∙ ap (λ t. cond (not t) found None) (tie_flip note.0 q)
          ∙ elim (eq_by_cmp nat_cmp q note.0) as (λ t. cond (not t) found None ≡ cond t None found) [ true ↦ refl | false ↦ refl ]
      | false ↦ ap (find nat_cmp q) (insert_is_put has note.0 note.1) ∙ find-put nat_cmp nat_cmp_total q note.0 note.1 has
    ] ∙ ap (λ t. cond t (number_told note) found) (sym (about_is q note.0 note.1))

find_notes : (q : ℕ) (has told : List (ℕ × ℕ)) → T (is_sorted nat_cmp has) →
    find nat_cmp q (with_notes has told) ≡ after (filter (about q) told) (find nat_cmp q has)
find_notes q has [] h = refl
find_notes q has (note ∷ told) h =
    let those = filter (about q) told in
    find_notes q (with_note has note) told (note_sorted has note h) ∙ ap (after those) (find_note q has note h)
    ∙ elim (about q note) as (λ t. after those (cond t (number_told note) (find nat_cmp q has)) ≡ after (cond t (note ∷ those) those) (find nat_cmp q has)) [ true ↦ refl | false ↦ refl ]

-- ---- all notes

same_notes : (has told sorted : List (ℕ × ℕ)) → T (is_sorted nat_cmp has) → IsStableByKey (λ (note : ℕ × ℕ). note.0) nat_cmp told sorted →
    with_notes has sorted ≡ with_notes has told
same_notes has told sorted h stable = same_entries nat_cmp nat_cmp_total exact_unsigned (with_notes has sorted) (with_notes has told)
    (notes_sorted has sorted h) (notes_sorted has told h)
    (λ q. find_notes q has sorted h ∙ ap (λ l. after l (find nat_cmp q has)) (stable (q, 0)) ∙ sym (find_notes q has told h))

pub merged_notes : (has told sorted : List (ℕ × ℕ)) → T (is_sorted nat_cmp has) → IsSortedByKey (λ (note : ℕ × ℕ). note.0) nat_cmp sorted →
    IsStableByKey (λ (note : ℕ × ℕ). note.0) nat_cmp told sorted → merged has sorted ≡ with_notes has told
merged_notes has told sorted h rising stable =
    merged_is has sorted (ascend_from has h) (rise_from sorted (IsNonDecreasingBy-from_sort (λ (note : ℕ × ℕ). note.0) sorted rising)) ∙ same_notes has told sorted h stable
