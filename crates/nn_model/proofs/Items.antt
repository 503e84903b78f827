-- Items: what one more message adds, and that items are in order.
use Rattle.std.proofs.Common.{◌≡◌, ℕ, ◌+◌, ◌≤◌, ◌<◌, true, false, cond, List, [], ◌∷◌, ◌++◌, map, Option, Some, None, refl, sym, ap, subst, ◌∙◌, inl, inr, arith}
use Rattle.std.specs.Prelude.{◌⊎◌, ◌==◌, filter, filter_map, option_map, not, nat_lt, if◌then◌else◌}
use Rattle.std.specs.List.{cons_option}
use Rattle.std.proofs.lemmas.Bool.{or_left, or_right, and_from, not_from_true, cases_lt, lt-ltb, ltb-true, ltb-false, eq-eqb, both_ways}
use Rattle.nn_types.specs.declared.report.Message.{Message}
use Rattle.nn_types.specs.declared.report.Kind.{Kind}
use Rattle.nn_types.specs.declared.report.Kind.TheVariants.{Receiving, Received, Deleted, Begin, Listed, Finish}
use Rattle.nn_model.specs.WellFormed.{Includes}
use Rattle.nn_model.specs.Lanes.{Lanes, AreNumberedLanes, AreNumbered, AreInOrder, AreOrdered, comes_before, followed_by}
use Rattle.nn_model.specs.Items.{with_once, each_once, last_about, number_unless_deleted, left_out, revoked, LaneItems, node_state, finished, added_as, added, lane_items_after, lane_items_from, lane_items, items_of, items, numbered_blocks}
use Rattle.nn_model.proofs.Dues.{has_either}
use Rattle.nn_model.proofs.Events.{any_none, any-append}

-- ---- one more message

pub had_push : (t : LaneItems) (ms : List Message) (m : Message) → lane_items_from t (ms ++ m ∷ []) ≡ lane_items_after (lane_items_from t ms) m
had_push t [] m = refl
had_push t (x ∷ ms) m = had_push (lane_items_after t x) ms m

-- one more message adds its own items after those of the others
pub items_push : (ms : List Message) (m : Message) → items_of (ms ++ m ∷ []) ≡ items_of ms ++ added (node_state (lane_items ms)) m
items_push ms m = ap (λ (t : LaneItems). t.items) (had_push (lane_items []) ms m)

-- ---- ids that rise

abbrev pub AreRising : List ℕ → Type 0
AreRising [] = Unit {0}
AreRising (i ∷ ids) = ((j : ℕ) → Includes ids j → i < j) × AreRising ids

from_once : (id : ℕ) (ids : List ℕ) (j : ℕ) → Includes (with_once id ids) j → (id ≡ j) ⊎ Includes ids j
from_once id [] j here = here
from_once id (i ∷ ids) j here =
    elim (nat_lt id i) as (λ t. Includes (cond t (id ∷ i ∷ ids) (cond (id == i) (i ∷ ids) (i ∷ with_once id ids))) j → (id ≡ j) ⊎ Includes (i ∷ ids) j) [
      | true ↦ λ h. h
      | false ↦ elim (id == i) as (λ t. Includes (cond t (i ∷ ids) (i ∷ with_once id ids)) j → (id ≡ j) ⊎ Includes (i ∷ ids) j) [
        | true ↦ λ h. inr h
        | false ↦ λ h. elim h [ inl same ↦ inr (inl same) | inr later ↦ elim (from_once id ids j later) [ inl new ↦ inl new | inr old ↦ inr (inr old) ] ]
      ]
    ] here

rising_once : (id : ℕ) (ids : List ℕ) → AreRising ids → AreRising (with_once id ids)
rising_once id [] rising = ((λ j none. absurd none), tt)
rising_once id (i ∷ ids) rising =
    elim (nat_lt id i) as (λ t. nat_lt id i ≡ t → AreRising (cond t (id ∷ i ∷ ids) (cond (id == i) (i ∷ ids) (i ∷ with_once id ids)))) [
      | true ↦ λ less. let l : id < i = ltb-true _ _ less in (
        (λ j here. elim here [ inl same ↦ omega (arith, l, same) | inr later ↦ omega (arith, l, rising.0 j later) ]),
        rising,
      )
      | false ↦ λ above. elim (id == i) as (λ t. (id == i) ≡ t → AreRising (cond t (i ∷ ids) (i ∷ with_once id ids))) [
        | true ↦ λ same. rising
        | false ↦ λ apart.
            let l : i < id = elim (cases_lt i id) [
              | inl less ↦ less
              | inr le ↦ absurd (both_ways _ apart (eq-eqb _ _ (let n : i ≤ id = ltb-false _ _ above in omega (arith, le, n))))
            ] in (
              (λ j here. elim (from_once id ids j here) [ inl new ↦ omega (arith, l, new) | inr old ↦ rising.0 j old ]),
              rising_once id ids rising.1,
            )
      ] refl
    ] refl

pub rising_each : (ids : List ℕ) → AreRising (each_once ids)
rising_each [] = tt
rising_each (id ∷ ids) = rising_once id (each_once ids) (rising_each ids)

-- what a test keeps of the blocks that are had comes from the ids
abbrev kept_ids : (begin : ℕ) (f : ℕ → Option ℕ) (ids : List ℕ) → List ℕ
kept_ids begin f ids = map (λ (had : ℕ × ℕ). had.0) (filter (λ (had : ℕ × ℕ). nat_lt had.1 begin) (filter_map (λ id. option_map (λ number. (id, number)) (f id)) ids))

from_kept : (begin : ℕ) (f : ℕ → Option ℕ) (ids : List ℕ) (j : ℕ) → Includes (kept_ids begin f ids) j → Includes ids j
from_kept begin f [] j here = here
from_kept begin f (i ∷ ids) j here = elim (f i) as (λ o. Includes (map (λ (had : ℕ × ℕ). had.0) (filter (λ (had : ℕ × ℕ). nat_lt had.1 begin)
    (cons_option (option_map (λ number. (i, number)) o) (filter_map (λ id. option_map (λ number. (id, number)) (f id)) ids)))) j → Includes (i ∷ ids) j) [
      | None ↦ λ h. inr (from_kept begin f ids j h)
      | Some k ↦ elim (nat_lt k begin) as (λ t. Includes (map (λ (had : ℕ × ℕ). had.0) (cond t ((i, k) ∷ filter (λ (had : ℕ × ℕ). nat_lt had.1 begin)
          (filter_map (λ id. option_map (λ number. (id, number)) (f id)) ids)) (filter (λ (had : ℕ × ℕ). nat_lt had.1 begin)
          (filter_map (λ id. option_map (λ number. (id, number)) (f id)) ids)))) j → Includes (i ∷ ids) j) [
            | true ↦ λ h. elim h [ inl same ↦ inl same | inr later ↦ inr (from_kept begin f ids j later) ]
            | false ↦ λ h. inr (from_kept begin f ids j h)
          ]
    ] here

rising_kept : (begin : ℕ) (f : ℕ → Option ℕ) (ids : List ℕ) → AreRising ids → AreRising (kept_ids begin f ids)
rising_kept begin f [] rising = tt
rising_kept begin f (i ∷ ids) rising = elim (f i) as (λ o. AreRising (map (λ (had : ℕ × ℕ). had.0) (filter (λ (had : ℕ × ℕ). nat_lt had.1 begin)
    (cons_option (option_map (λ number. (i, number)) o) (filter_map (λ id. option_map (λ number. (id, number)) (f id)) ids))))) [
      | None ↦ rising_kept begin f ids rising.1
      | Some k ↦ elim (nat_lt k begin) as (λ t. AreRising (map (λ (had : ℕ × ℕ). had.0) (cond t ((i, k) ∷ filter (λ (had : ℕ × ℕ). nat_lt had.1 begin)
          (filter_map (λ id. option_map (λ number. (id, number)) (f id)) ids)) (filter (λ (had : ℕ × ℕ). nat_lt had.1 begin)
          (filter_map (λ id. option_map (λ number. (id, number)) (f id)) ids))))) [
            | true ↦ ((λ j here. rising.0 j (from_kept begin f ids j here)), rising_kept begin f ids rising.1)
            | false ↦ rising_kept begin f ids rising.1
          ]
    ]

-- ---- items in order

in_order_append : (dn : ℕ) (xs ys : List Message) → AreInOrder dn xs → AreInOrder dn ys →
    ((x y : Message) → Includes xs x → Includes ys y → comes_before x y ≡ true) → AreInOrder dn (xs ++ ys)
in_order_append dn [] ys left right between = right
in_order_append dn (x ∷ xs) ys left right between = (
  left.0,
  any-append (λ later. not (comes_before x later)) xs ys left.1
      (any_none (λ later. not (comes_before x later)) ys (λ y here. not_from_true _ (between x y (inl refl) here))),
  in_order_append dn xs ys left.2 right (λ z y h k. between z y (inr h) k),
)

less_before : (x y : Message) → x.number < y.number → comes_before x y ≡ true
less_before x y less = or_left _ _ (lt-ltb _ _ less)

-- items that a finish revokes, by block
from_taken : (m : Message) (ids : List ℕ) (y : Message) → Includes (map (revoked m) ids) y → (id : ℕ) × Includes ids id × (revoked m id ≡ y)
from_taken m [] y here = absurd here
from_taken m (id ∷ ids) y (inl same) = (id, inl refl, same)
from_taken m (id ∷ ids) y (inr here) = let r = from_taken m ids y here in (r.0, inr r.1, r.2)

taken_in_order : (m : Message) (ids : List ℕ) → AreRising ids → AreInOrder m.dn (map (revoked m) ids)
taken_in_order m [] rising = tt
taken_in_order m (id ∷ ids) rising = (
  refl,
  any_none (λ later. not (comes_before (revoked m id) later)) (map (revoked m) ids) (λ y here.
      let f = from_taken m ids y here in
      subst (λ z. not (comes_before (revoked m id) z) ≡ false) f.2
      (not_from_true _ (or_right _ _ (and_from _ _ (eq-eqb m.number m.number refl) (lt-ltb _ _ (rising.0 f.0 f.1)))))),
  taken_in_order m ids rising.1,
)

-- what a message adds has its DataNode and its number
abbrev AreOf : Message → List Message → Type 0
AreOf m ys = (y : Message) → Includes ys y → (y.dn ≡ m.dn) × (y.number ≡ m.number)

one_of : (m y : Message) → y.dn ≡ m.dn → y.number ≡ m.number → AreOf m (y ∷ [])
one_of m y dn number z here = elim here [ inl same ↦ (ap (λ w. w.dn) (sym same) ∙ dn, ap (λ w. w.number) (sym same) ∙ number) | inr none ↦ absurd none ]

one_in_order : (y : Message) → AreInOrder y.dn (y ∷ [])
one_in_order y = (refl, refl, tt)

finished_of : (begun : Option ℕ) (its : List Message) (m : Message) →
    AreOf m (finished begun (numbered_blocks its) m) × AreInOrder m.dn (finished begun (numbered_blocks its) m)
finished_of None its m = ((λ y none. absurd none), tt)
finished_of (Some begin) its m = (
  (λ y here. let f = from_taken m (left_out begin (numbered_blocks its)) y here in (ap (λ z. z.dn) (sym f.2), ap (λ z. z.number) (sym f.2))),
  taken_in_order m (left_out begin (numbered_blocks its))
      (rising_kept begin (λ id. number_unless_deleted (last_about its id)) (each_once (map (λ i. i.block) its)) (rising_each (map (λ i. i.block) its))),
)

pub added_of : (k : Kind) (t : LaneItems) (m : Message) → AreOf m (added_as k (node_state t) m) × AreInOrder m.dn (added_as k (node_state t) m)
added_of Receiving t m = (one_of m m refl refl, one_in_order m)
added_of Received t m = (one_of m m refl refl, one_in_order m)
added_of Deleted t m = (one_of m m refl refl, one_in_order m)
added_of Begin t m = ((λ y none. absurd none), tt)
added_of Listed t m = (one_of m (record m { kind = Received }) refl refl, one_in_order (record m { kind = Received }))
added_of Finish t m = finished_of t.begun t.items m

pub record InOrderBelow (dn k : ℕ) (t : LaneItems) : Type 0 where
  pub order : AreInOrder dn t.items
  pub below : (i : Message) → Includes t.items i → i.number < k

in_order_from : (dn k : ℕ) (ms : List Message) (t : LaneItems) → AreNumbered dn k ms → InOrderBelow dn k t → AreInOrder dn (lane_items_from t ms).items
in_order_from dn k [] t numbered so = so.order
in_order_from dn k (m ∷ ms) t numbered so =
    let own = added_of m.kind t m in
    let is : m.number ≡ k = numbered.1 in
    in_order_from dn (k + 1) ms (lane_items_after t m) numbered.2 (record {
      order = in_order_append dn t.items (added (node_state t) m) so.order (subst (λ d. AreInOrder d (added (node_state t) m)) numbered.0 own.1)
          (λ x y h g. less_before x y (omega (arith, so.below x h, (own.0 y g).1, is)));
      below = λ i here. elim (has_either t.items (added (node_state t) m) i here) [
        | inl old ↦ omega (arith, so.below i old)
        | inr new ↦ omega (arith, (own.0 i new).1, is)
      ];
    })

-- the items of numbered lanes are in order
pub items_in_order : (lanes : Lanes) → AreNumberedLanes lanes → AreOrdered (items lanes)
items_in_order lanes numbered dn = in_order_from dn 1 (lanes dn) (lane_items []) (numbered dn) (record { order = tt; below = λ i none. absurd none })

-- the items of lanes with one more message
pub items_followed : (lanes : Lanes) (m : Message) (dn : ℕ) →
    items (followed_by lanes m) dn ≡ (if dn == m.dn then items lanes dn ++ added (node_state (lane_items (lanes dn))) m else items lanes dn)
items_followed lanes m dn = elim (dn == m.dn) as (λ t. items_of (cond t (lanes dn ++ m ∷ []) (lanes dn))
    ≡ cond t (items_of (lanes dn) ++ added (node_state (lane_items (lanes dn))) m) (items_of (lanes dn))) [
      | true ↦ items_push (lanes dn) m
      | false ↦ refl
    ]
