-- What is had after one more item.
use Rattle.std.proofs.Common.{◌≡◌, ℕ, ◌<◌, Bool, true, false, cond, T, List, [], ◌∷◌, ◌++◌, map, Option, Some, None, refl, sym, ap, subst, ◌∙◌, inl, inr, arith, ltb-true, append_assoc, append-nil}
use Rattle.std.specs.Prelude.{◌⊎◌, nat_lt, ◌==◌, ◌&&◌, filter, filter_map, option_map, if◌then◌else◌}
use Rattle.std.specs.List.{cons_option, last_or}
use Rattle.std.specs.Map.{remove_entry}
use Rattle.std.specs.BTreeMap.{insert_entry, is_at}
use Rattle.std.specs.Ordering.{nat_cmp, eq_by_cmp, is_eq, is_lt, match_ordering}
use Rattle.std.specs.declared.cmp.Ordering.TheVariants.{Less, Equal, Greater}
use Rattle.std.specs.FinMap.Entries.{find as find_entry, put, by_order, is_sorted, below_all, find-put, is_sorted-put, same_entries}
use Rattle.std.proofs.lemmas.Bool.{both_ways, cases_Bool, eqb-true, eq-eqb, cond-true, cond-false, lt-ltb, false_from_ne_true}
use Rattle.std.proofs.lemmas.Cmp.{nat_cmp_total}
use Rattle.nn_types.specs.declared.report.Message.{Message}
use Rattle.nn_model.specs.WellFormed.{Includes}
use Rattle.nn_model.specs.Items.{with_once, each_once, last_about, number_unless_deleted, numbered_blocks, is_deleted, with_item, with_items, node_state, lane_items, lane_items_after, node_state_after, begun_after, LaneItems, added}
use Rattle.nn_model.specs.Lanes.{Lanes, followed_by}
use Rattle.nn_model.proofs.Items.{AreRising, rising_each, had_push}

abbrev listed_as : (ℕ → Option ℕ) → List ℕ → List (ℕ × ℕ)
listed_as f ids = filter_map (λ id. option_map (λ number. (id, number)) (f id)) ids

-- what the last item says, with one more item
pub last_push : (its : List Message) (i : Message) (acc : Option Message) (q : ℕ) →
    last_or acc (filter (λ j. j.block == q) (its ++ i ∷ [])) ≡ cond (i.block == q) (Some i) (last_or acc (filter (λ j. j.block == q) its))
last_push [] i acc q = elim (i.block == q) as (λ t. last_or acc (cond t (i ∷ []) []) ≡ cond t (Some i) acc) [ true ↦ refl | false ↦ refl ]
last_push (x ∷ its) i acc q = elim (x.block == q) as (λ t. last_or acc (cond t (x ∷ filter (λ j. j.block == q) (its ++ i ∷ [])) (filter (λ j. j.block == q) (its ++ i ∷ [])))
    ≡ cond (i.block == q) (Some i) (last_or acc (cond t (x ∷ filter (λ j. j.block == q) its) (filter (λ j. j.block == q) its)))) [
      | true ↦ last_push its i (Some x) q
      | false ↦ last_push its i acc q
    ]

pub last_number_push : (its : List Message) (i : Message) (q : ℕ) →
    number_unless_deleted (last_about (its ++ i ∷ []) q) ≡ cond (i.block == q) (number_unless_deleted (Some i)) (number_unless_deleted (last_about its q))
last_number_push its i q = ap number_unless_deleted (last_push its i None q)
    ∙ elim (i.block == q) as (λ t. number_unless_deleted (cond t (Some i) (last_about its q)) ≡ cond t (number_unless_deleted (Some i)) (number_unless_deleted (last_about its q)))
    [ true ↦ refl | false ↦ refl ]

in_once : (id : ℕ) (ids : List ℕ) (q : ℕ) → (id ≡ q) ⊎ Includes ids q → Includes (with_once id ids) q
in_once id [] q here = here
in_once id (i ∷ ids) q here = elim (nat_lt id i) as (λ t. Includes (cond t (id ∷ i ∷ ids) (cond (id == i) (i ∷ ids) (i ∷ with_once id ids))) q) [
  | true ↦ here
  | false ↦ elim (id == i) as (λ t. (id == i) ≡ t → Includes (cond t (i ∷ ids) (i ∷ with_once id ids)) q) [
    | true ↦ λ same. elim here [ inl new ↦ inl (sym (eqb-true id i same) ∙ new) | inr old ↦ old ]
    | false ↦ λ apart. elim here [ inl new ↦ inr (in_once id ids q (inl new)) | inr (inl own) ↦ inl own | inr (inr old) ↦ inr (in_once id ids q (inr old)) ]
  ] refl
]

pub in_each : (ids : List ℕ) (q : ℕ) → Includes ids q → Includes (each_once ids) q
in_each [] q here = here
in_each (id ∷ ids) q (inl same) = in_once id (each_once ids) q (inl same)
in_each (id ∷ ids) q (inr here) = in_once id (each_once ids) q (inr (in_each ids q here))

pub eq_is : (x y : ℕ) → is_eq (nat_cmp x y) ≡ (x == y)
eq_is x y = cases (nat_lt x y) (x == y) refl refl
  where
    cases : (below same : Bool) → nat_lt x y ≡ below → (x == y) ≡ same → is_eq (cond below Less (cond same Equal Greater)) ≡ same
    cases true true l e = absurd (let a = ltb-true x y l in let b = eqb-true x y e in omega (arith, a, b))
    cases true false l e = refl
    cases false true l e = refl
    cases false false l e = refl

-- a look-up in what is listed: where it is not listed it has nothing
pub find_listed : (f : ℕ → Option ℕ) (ids : List ℕ) (q : ℕ) → Includes ids q ⊎ (f q ≡ None) → find_entry nat_cmp q (listed_as f ids) ≡ f q
find_listed f [] q (inl none) = absurd none
find_listed f [] q (inr none) = sym none
find_listed f (i ∷ ids) q so = elim (cases_Bool (q == i)) [
  | inl same ↦ let e : q ≡ i = eqb-true q i same in elim (f i) as (λ o. f i ≡ o →
      find_entry nat_cmp q (cons_option (option_map (λ number. (i, number)) o) (listed_as f ids)) ≡ f q) [
        | Some v ↦ λ is. cond-true (eq_by_cmp nat_cmp q i) (Some v) (find_entry nat_cmp q (listed_as f ids)) (eq_is q i ∙ same) ∙ sym is ∙ ap f (sym e)
        | None ↦ λ is. find_listed f ids q (inr (ap f e ∙ is))
      ] refl
  | inr apart ↦
      let rest : Includes ids q ⊎ (f q ≡ None) = elim so [
        | inl (inl own) ↦ absurd (both_ways _ apart (eq-eqb q i (sym own)))
        | inl (inr later) ↦ inl later
        | inr none ↦ inr none
      ] in
      elim (f i) as (λ o. find_entry nat_cmp q (cons_option (option_map (λ number. (i, number)) o) (listed_as f ids)) ≡ f q) [
        | Some v ↦ cond-false (eq_by_cmp nat_cmp q i) (Some v) (find_entry nat_cmp q (listed_as f ids)) (eq_is q i ∙ apart) ∙ find_listed f ids q rest
        | None ↦ find_listed f ids q rest
      ]
]

-- each block of an item is listed, and of another nothing was said
said_or_not : (its : List Message) (q : ℕ) → Includes (map (λ i. i.block) its) q ⊎ (last_about its q ≡ None)
said_or_not [] q = inr refl
said_or_not (x ∷ its) q = elim (cases_Bool (x.block == q)) [
  | inl same ↦ inl (inl (eqb-true x.block q same))
  | inr apart ↦ elim (said_or_not its q) [
    | inl later ↦ inl (inr later)
    | inr none ↦ inr (ap (last_or None) (cond-false (x.block == q) (x ∷ filter (λ j. j.block == q) its) (filter (λ j. j.block == q) its) apart) ∙ none)
  ]
]

-- so what is had is looked up by the last item about the block
pub find_had : (its : List Message) (q : ℕ) → find_entry nat_cmp q (numbered_blocks its) ≡ number_unless_deleted (last_about its q)
find_had its q = find_listed (λ id. number_unless_deleted (last_about its id)) (each_once (map (λ i. i.block) its)) q
    (elim (said_or_not its q) [ inl here ↦ inl (in_each (map (λ i. i.block) its) q here) | inr none ↦ inr (ap number_unless_deleted none) ])

-- ---- entries in order

insert_is_put : (k v : ℕ) (es : List (ℕ × ℕ)) → insert_entry nat_cmp es k v ≡ put nat_cmp k v es
insert_is_put k v [] = refl
insert_is_put k v (e ∷ es) = elim (nat_cmp k e.0) as
    (λ o. match_ordering o ((k, v) ∷ e ∷ es) ((e.0, v) ∷ es) (e ∷ insert_entry nat_cmp es k v) ≡ by_order o ((k, v) ∷ e ∷ es) ((e.0, v) ∷ es) (e ∷ put nat_cmp k v es)) [
      | Less ↦ refl
      | Equal ↦ refl
      | Greater ↦ ap (λ l. e ∷ l) (insert_is_put k v es)
    ]

same_by_cmp : (x y : ℕ) → nat_cmp x y ≡ Equal → x ≡ y
same_by_cmp x y e = eqb-true x y (sym (eq_is x y) ∙ ap is_eq e)

both_true : (a b : Bool) → T a → T b → T (a && b)
both_true true b p q = q
both_true false b p q = absurd p

left_true : (a b : Bool) → T (a && b) → T a
left_true true b p = tt
left_true false b p = p

right_true : (a b : Bool) → T (a && b) → T b
right_true true b p = p
right_true false b p = absurd p

is_less : (x y : ℕ) → x < y → T (is_lt (nat_cmp x y))
is_less x y less = subst (λ b. T (is_lt (cond b Less (cond (x == y) Equal Greater)))) (sym (lt-ltb x y less)) tt

less_is : (x y : ℕ) → T (is_lt (nat_cmp x y)) → x < y
less_is x y so = elim (nat_lt x y) as (λ b. nat_lt x y ≡ b → T (is_lt (cond b Less (cond (x == y) Equal Greater))) → x < y) [
  | true ↦ λ e p. ltb-true x y e
  | false ↦ λ e. elim (x == y) as (λ b. T (is_lt (cond b Equal Greater)) → x < y) [ true ↦ λ p. absurd p | false ↦ λ p. absurd p ]
] refl so

below_removed : (k x : ℕ) (es : List (ℕ × ℕ)) → T (below_all nat_cmp x es) → T (below_all nat_cmp x (remove_entry (is_at (nat_cmp k)) es))
below_removed k x [] below = tt
below_removed k x (e ∷ es) below = elim (is_at (nat_cmp k) e.0) as (λ t. T (below_all nat_cmp x (cond t es (e ∷ remove_entry (is_at (nat_cmp k)) es)))) [
  | true ↦ right_true _ _ below
  | false ↦ both_true _ _ (left_true _ _ below) (below_removed k x es (right_true _ _ below))
]

sorted_removed : (k : ℕ) (es : List (ℕ × ℕ)) → T (is_sorted nat_cmp es) → T (is_sorted nat_cmp (remove_entry (is_at (nat_cmp k)) es))
sorted_removed k [] sorted = tt
sorted_removed k (e ∷ es) sorted = elim (is_at (nat_cmp k) e.0) as (λ t. T (is_sorted nat_cmp (cond t es (e ∷ remove_entry (is_at (nat_cmp k)) es)))) [
  | true ↦ right_true _ _ sorted
  | false ↦ both_true _ _ (below_removed k e.0 es (left_true _ _ sorted)) (sorted_removed k es (right_true _ _ sorted))
]

-- a key that is below all others is not among them
missing_below : (k : ℕ) (es : List (ℕ × ℕ)) → T (below_all nat_cmp k es) → find_entry nat_cmp k es ≡ None
missing_below k [] below = refl
missing_below k (e ∷ es) below =
    let less : k < e.0 = less_is k e.0 (left_true _ _ below) in
    cond-false (eq_by_cmp nat_cmp k e.0) (Some e.1) (find_entry nat_cmp k es) (eq_is k e.0 ∙ false_from_ne_true _ (λ same. let is : k ≡ e.0 = eqb-true k e.0 same in omega arith))
    ∙ missing_below k es (right_true _ _ below)

find_removed : (q k : ℕ) (es : List (ℕ × ℕ)) → T (is_sorted nat_cmp es) →
    find_entry nat_cmp q (remove_entry (is_at (nat_cmp k)) es) ≡ cond (k == q) None (find_entry nat_cmp q es)
find_removed q k [] sorted = elim (k == q) as (λ t. ◌≡◌ {A = Option ℕ} None (cond t None None)) [ true ↦ refl | false ↦ refl ]
find_removed q k (e ∷ es) sorted = elim (cases_Bool (k == e.0)) [
  | inl at ↦
      let here : k ≡ e.0 = eqb-true k e.0 at in
      ap (λ t. find_entry nat_cmp q (cond t es (e ∷ remove_entry (is_at (nat_cmp k)) es))) (eq_is k e.0 ∙ at)
      ∙ (elim (cases_Bool (k == q)) [
        | inl same ↦
            let is : k ≡ q = eqb-true k q same in
            ap (λ x. find_entry nat_cmp x es) (sym is ∙ here) ∙ missing_below e.0 es (left_true _ _ sorted) ∙ sym (cond-true (k == q) None (find_entry nat_cmp q (e ∷ es)) same)
        | inr other ↦
            sym (cond-false (k == q) None (find_entry nat_cmp q (e ∷ es)) other
            ∙ cond-false (eq_by_cmp nat_cmp q e.0) (Some e.1) (find_entry nat_cmp q es)
            (eq_is q e.0 ∙ false_from_ne_true _ (λ too. both_ways _ other (eq-eqb k q (here ∙ sym (eqb-true q e.0 too))))))
      ])
  | inr apart ↦
      ap (λ t. find_entry nat_cmp q (cond t es (e ∷ remove_entry (is_at (nat_cmp k)) es))) (eq_is k e.0 ∙ apart)
      ∙ ap (cond (eq_by_cmp nat_cmp q e.0) (Some e.1)) (find_removed q k es (right_true _ _ sorted))
      ∙ (elim (cases_Bool (k == q)) [
        | inl same ↦
            ap (λ t. cond (eq_by_cmp nat_cmp q e.0) (Some e.1) (cond t None (find_entry nat_cmp q es))) same
            ∙ cond-false (eq_by_cmp nat_cmp q e.0) (Some e.1) None
            (eq_is q e.0 ∙ false_from_ne_true _ (λ too. both_ways _ apart (eq-eqb k e.0 (eqb-true k q same ∙ eqb-true q e.0 too))))
            ∙ sym (cond-true (k == q) None (find_entry nat_cmp q (e ∷ es)) same)
        | inr other ↦
            ap (λ t. cond (eq_by_cmp nat_cmp q e.0) (Some e.1) (cond t None (find_entry nat_cmp q es))) other
            ∙ sym (cond-false (k == q) None (find_entry nat_cmp q (e ∷ es)) other)
      ])
]

-- ---- what is had, in order

below_listed : (f : ℕ → Option ℕ) (x : ℕ) (ids : List ℕ) → ((j : ℕ) → Includes ids j → x < j) → T (below_all nat_cmp x (listed_as f ids))
below_listed f x [] above = tt
below_listed f x (i ∷ ids) above = elim (f i) as (λ o. T (below_all nat_cmp x (cons_option (option_map (λ number. (i, number)) o) (listed_as f ids)))) [
  | None ↦ below_listed f x ids (λ j here. above j (inr here))
  | Some v ↦ both_true _ _ (is_less x i (above i (inl refl))) (below_listed f x ids (λ j here. above j (inr here)))
]

sorted_listed : (f : ℕ → Option ℕ) (ids : List ℕ) → AreRising ids → T (is_sorted nat_cmp (listed_as f ids))
sorted_listed f [] rising = tt
sorted_listed f (i ∷ ids) rising = elim (f i) as (λ o. T (is_sorted nat_cmp (cons_option (option_map (λ number. (i, number)) o) (listed_as f ids)))) [
  | None ↦ sorted_listed f ids rising.1
  | Some v ↦ both_true _ _ (below_listed f i ids rising.0) (sorted_listed f ids rising.1)
]

pub has_sorted : (its : List Message) → T (is_sorted nat_cmp (numbered_blocks its))
has_sorted its = sorted_listed (λ id. number_unless_deleted (last_about its id)) (each_once (map (λ i. i.block) its)) (rising_each (map (λ i. i.block) its))

-- ---- one more item

either_way : (x y : ℕ) → (x == y) ≡ (y == x)
either_way x y = elim (cases_Bool (x == y)) [
  | inl same ↦ same ∙ sym (eq-eqb y x (sym (eqb-true x y same)))
  | inr other ↦ other ∙ sym (false_from_ne_true _ (λ same. both_ways _ other (eq-eqb x y (sym (eqb-true y x same)))))
]

find_with : (has : List (ℕ × ℕ)) (i : Message) (q : ℕ) → T (is_sorted nat_cmp has) →
    find_entry nat_cmp q (with_item has i) ≡ cond (i.block == q) (number_unless_deleted (Some i)) (find_entry nat_cmp q has)
find_with has i q sorted = elim (is_deleted i.kind) as
    (λ t. find_entry nat_cmp q (if t then remove_entry (is_at (nat_cmp i.block)) has else insert_entry nat_cmp has i.block i.number)
    ≡ cond (i.block == q) (if t then None else Some i.number) (find_entry nat_cmp q has)) [
      | true ↦ find_removed q i.block has sorted
      | false ↦
          ap (find_entry nat_cmp q) (insert_is_put i.block i.number has) ∙ find-put nat_cmp nat_cmp_total q i.block i.number has
          ∙ ap (λ t. cond t (Some i.number) (find_entry nat_cmp q has)) (eq_is q i.block ∙ either_way q i.block)
    ]

sorted_with : (has : List (ℕ × ℕ)) (i : Message) → T (is_sorted nat_cmp has) → T (is_sorted nat_cmp (with_item has i))
sorted_with has i sorted = elim (is_deleted i.kind) as
    (λ t. T (is_sorted nat_cmp (if t then remove_entry (is_at (nat_cmp i.block)) has else insert_entry nat_cmp has i.block i.number))) [
      | true ↦ sorted_removed i.block has sorted
      | false ↦ subst (λ l. T (is_sorted nat_cmp l)) (sym (insert_is_put i.block i.number has)) (is_sorted-put nat_cmp nat_cmp_total i.block i.number has sorted)
    ]

pub has_push : (its : List Message) (i : Message) → numbered_blocks (its ++ i ∷ []) ≡ with_item (numbered_blocks its) i
has_push its i = same_entries nat_cmp nat_cmp_total same_by_cmp (numbered_blocks (its ++ i ∷ [])) (with_item (numbered_blocks its) i)
    (has_sorted (its ++ i ∷ [])) (sorted_with (numbered_blocks its) i (has_sorted its))
    (λ q. find_had (its ++ i ∷ []) q ∙ last_number_push its i q ∙ ap (cond (i.block == q) (number_unless_deleted (Some i))) (sym (find_had its q))
    ∙ sym (find_with (numbered_blocks its) i q (has_sorted its)))

has_append : (its new : List Message) → numbered_blocks (its ++ new) ≡ with_items (numbered_blocks its) new
has_append its [] = ap numbered_blocks (append-nil its)
has_append its (i ∷ new) = ap numbered_blocks (sym (append_assoc its (i ∷ []) new)) ∙ has_append (its ++ i ∷ []) new ∙ ap (λ h. with_items h new) (has_push its i)

-- ---- one more message

pub having_push : (t : LaneItems) (m : Message) → node_state (lane_items_after t m) ≡ node_state_after (node_state t) m
having_push t m j = record { has = has_append t.items (added (node_state t) m) j; begun = begun_after m.kind t.begun m.number }

-- what is had by lanes with one more message
pub having_followed : (lanes : Lanes) (m : Message) (dn : ℕ) →
    node_state (lane_items (followed_by lanes m dn)) ≡ (if dn == m.dn then node_state_after (node_state (lane_items (lanes dn))) m else node_state (lane_items (lanes dn)))
having_followed lanes m dn = elim (dn == m.dn) as (λ t. node_state (lane_items (cond t (lanes dn ++ m ∷ []) (lanes dn)))
    ≡ cond t (node_state_after (node_state (lane_items (lanes dn))) m) (node_state (lane_items (lanes dn)))) [
      | true ↦ ap node_state (had_push (lane_items []) (lanes dn) m) ∙ having_push (lane_items (lanes dn)) m
      | false ↦ refl
    ]
