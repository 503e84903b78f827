-- The lowest of ascending ids that is at least one, found by halves.
use Rattle.std.proofs.Common.{◌≡◌, ℕ, zero, suc, ◌+◌, ◌≤◌, ◌<◌, Bool, true, false, cond, List, [], ◌∷◌, length, drop, get_or, Option, Some, None, refl, sym, ap, subst, ◌∙◌, arith, inl, inr}
use Rattle.std.specs.Prelude.{nat_le, nat_lt, ◌==◌, ◌⊎◌}
use Rattle.std.specs.List.{list_any}
use Rattle.std.proofs.lemmas.Bool.{not-false, or_parts, or_from, ltb-false, ltb-true, le-leb, lt-leb, le-ltb, and_parts, cases_Bool}
use Rattle.std.proofs.lemmas.List.{get_or_read}
use Rattle.nn_types.specs.declared.block.Block.{Block}
use Rattle.nn_types.specs.declared.edit.Edit.{Edit}
use Rattle.nn_types.specs.declared.edit.Edit.TheVariants.{StartSegment, EndSegment, Mkdir, Add, AddBlock, UpdateBlocks, Close, Append, Rename, Delete}
use Rattle.nn_types.specs.declared.edit.Edit.TheVariants.{SetReplication, AllocateBlockId, SetGenstamp}
use Rattle.nn_model.specs.Namespace.{Namespace, Path, file_at}
use Rattle.nn_model.specs.Touched.{touched, ids_of, ids_below, with_id, ascending, changed_ids}
use Rattle.nn_model.specs.Apply.{first_fault, keeps_ids, list_checks, refusal}
use Rattle.nn_model.proofs.Dues.{all_none}
use Rattle.nn_model.proofs.Dues.{when_none}
use Rattle.nn_model.proofs.Members.{just_blocks}
use Rattle.nn_shadow.specs.Touching.{written, Rises, lower, lower_from, lowest}

first_least : (x : ℕ) (xs : List ℕ) (k d : ℕ) → list_any (λ y. nat_lt y x) xs ≡ false → k < length xs → x ≤ get_or xs k d
first_least x [] k d none lt = absurd (omega (arith, lt))
first_least x (y ∷ xs) zero d none lt = ltb-false y x (or_parts (nat_lt y x) (list_any (λ z. nat_lt z x) xs) none).0
first_least x (y ∷ xs) (suc k) d none lt = first_least x xs k d (or_parts (nat_lt y x) (list_any (λ z. nat_lt z x) xs) none).1 (omega (arith, lt))

pub rises_at : (ids : List ℕ) → Rises ids → (i j d : ℕ) → i ≤ j → j < length ids → get_or ids i d ≤ get_or ids j d
rises_at [] r i j d le lt = absurd (omega (arith, lt))
rises_at (x ∷ ids) r zero zero d le lt = omega arith
rises_at (x ∷ ids) r zero (suc j) d le lt = first_least x ids j d r.0 (omega (arith, lt))
rises_at (x ∷ ids) r (suc i) zero d le lt = absurd (omega (arith, le))
rises_at (x ∷ ids) r (suc i) (suc j) d le lt = rises_at ids r.1 i j d (omega (arith, le)) (omega (arith, lt))

passed : (from : ℕ) (found : Option ℕ) (id : ℕ) → id < from → lower_from from found id ≡ found
passed from found id below = ap (λ t. cond t (Some (lower found id)) found) (lt-leb from id below)

reached : (from : ℕ) (found : Option ℕ) (id : ℕ) → from ≤ id → lower_from from found id ≡ Some (lower found id)
reached from found id le = ap (λ t. cond t (Some (lower found id)) found) (le-leb from id le)

pub lowest_none : (from : ℕ) (ids : List ℕ) → ((k d : ℕ) → k < length ids → get_or ids k d < from) → lowest from None ids ≡ None
lowest_none from [] below = refl
lowest_none from (id ∷ ids) below =
    ap (λ o. lowest from o ids) (passed from None id (below zero 0 (omega arith))) ∙ lowest_none from ids (λ k d lt. below (suc k) d (omega (arith, lt)))

kept : (from id : ℕ) (ids : List ℕ) → from ≤ id → list_any (λ y. nat_lt y id) ids ≡ false → lowest from (Some id) ids ≡ Some id
kept from id [] le none = refl
kept from id (x ∷ ids) le none =
    let p = or_parts (nat_lt x id) (list_any (λ y. nat_lt y id) ids) none in
    let high = ltb-false x id p.0 in
    ap (λ o. lowest from o ids) (reached from (Some id) x (omega (arith, le, high)) ∙ ap (λ t. Some (cond t x id)) p.0) ∙ kept from id ids le p.1

pub lowest_at : (from : ℕ) (ids : List ℕ) (i d : ℕ) → Rises ids → i < length ids → ((k e : ℕ) → k < i → get_or ids k e < from) → from ≤ get_or ids i d →
    lowest from None ids ≡ Some (get_or ids i d)
lowest_at from [] i d r lt below le = absurd (omega (arith, lt))
lowest_at from (id ∷ ids) zero d r lt below le = ap (λ o. lowest from o ids) (reached from None id le) ∙ kept from id ids le r.0
lowest_at from (id ∷ ids) (suc i) d r lt below le =
    ap (λ o. lowest from o ids) (passed from None id (below zero 0 (omega arith)))
    ∙ lowest_at from ids i d r.1 (omega (arith, lt)) (λ k e l. below (suc k) e (omega (arith, l))) le

-- ---- The ids that an edit retired ascend.

none_low : (x i : ℕ) (ids : List ℕ) → x ≤ i → list_any (λ y. nat_lt y x) ids ≡ false → list_any (λ y. nat_lt y x) (with_id i ids) ≡ false
none_low x i [] le none = or_from (nat_lt i x) false (le-ltb i x le) refl
none_low x i (y ∷ ids) le none =
    let p = or_parts (nat_lt y x) (list_any (λ z. nat_lt z x) ids) none in
    elim (nat_lt i y) as (λ t. list_any (λ z. nat_lt z x) (cond t (i ∷ y ∷ ids) (y ∷ with_id i ids)) ≡ false) [
      | true ↦ or_from (nat_lt i x) (list_any (λ z. nat_lt z x) (y ∷ ids)) (le-ltb i x le) none
      | false ↦ or_from (nat_lt y x) (list_any (λ z. nat_lt z x) (with_id i ids)) p.0 (none_low x i ids le p.1)
    ]

all_above : (i x : ℕ) (ids : List ℕ) → i ≤ x → list_any (λ y. nat_lt y x) ids ≡ false → list_any (λ y. nat_lt y i) ids ≡ false
all_above i x [] le none = refl
all_above i x (y ∷ ids) le none =
    let p = or_parts (nat_lt y x) (list_any (λ z. nat_lt z x) ids) none in
    let high = ltb-false y x p.0 in
    or_from (nat_lt y i) (list_any (λ z. nat_lt z i) ids) (le-ltb y i (omega (arith, le, high))) (all_above i x ids le p.1)

with_rises : (i : ℕ) (ids : List ℕ) → Rises ids → Rises (with_id i ids)
with_rises i [] r = (refl, tt)
with_rises i (x ∷ ids) r =
    elim (nat_lt i x) as (λ t. nat_lt i x ≡ t → Rises (cond t (i ∷ x ∷ ids) (x ∷ with_id i ids))) [
      | true ↦ λ e. let l : i < x = ltb-true i x e in
          (or_from (nat_lt x i) (list_any (λ z. nat_lt z i) ids) (le-ltb x i (omega (arith, l))) (all_above i x ids (omega (arith, l)) r.0), r)
      | false ↦ λ e. (none_low x i ids (ltb-false i x e) r.0, with_rises i ids r.1)
    ] refl

pub ascending_rises : (ids : List ℕ) → Rises (ascending ids)
ascending_rises [] = tt
ascending_rises (i ∷ ids) = with_rises i (ascending ids) (ascending_rises ids)

-- a list of blocks leaves out one at most
pub left_out_rises : (old new : List Block) → keeps_ids old new ≡ true → Rises (ids_of (drop (length new) old))
left_out_rises [] [] keeps = tt
left_out_rises [] (b ∷ new) keeps = tt
left_out_rises (a ∷ []) [] keeps = (refl, tt)
left_out_rises (a ∷ c ∷ old) [] keeps = absurd (cc)
left_out_rises (a ∷ []) (b ∷ new) keeps = left_out_rises [] new (and_parts (a.id == b.id) (keeps_ids [] new) keeps).1
left_out_rises (a ∷ c ∷ old) (b ∷ new) keeps = left_out_rises (c ∷ old) new (and_parts (a.id == b.id) (keeps_ids (c ∷ old) new) keeps).1

-- ---- The ids that an edit wrote, in ascending order.

-- the lower one of two ids
record IsLower (i a x : ℕ) : Type 0 where
  to_one : x ≤ i
  to_other : x ≤ a
  is_one : (x ≡ i) ⊎ (x ≡ a)

lower_is : (a i : ℕ) → IsLower i a (lower (Some a) i)
lower_is a i = elim (cases_Bool (nat_lt i a)) [
  | inl below ↦ subst (λ t. IsLower i a (cond t i a)) (sym below) (let l = ltb-true i a below in record { to_one = omega arith; to_other = omega (arith, l); is_one = inl refl })
  | inr above ↦ subst (λ t. IsLower i a (cond t i a)) (sym above) (let l = ltb-false i a above in record { to_one = omega (arith, l); to_other = omega arith; is_one = inr refl })
]

-- the lowest of three is at most the lowest of them in another order
lowest_of_three : (a i j p x q y : ℕ) → IsLower i a p → IsLower j p x → IsLower j a q → IsLower i q y → x ≤ y
lowest_of_three a i j p x q y s t u v = elim v.is_one [
  | inl one ↦ (let l = s.to_one in let m = t.to_other in omega (arith, one, l, m))
  | inr other ↦ elim u.is_one [
    | inl two ↦ (let l = t.to_one in omega (arith, other, two, l))
    | inr three ↦ (let l = s.to_other in let m = t.to_other in omega (arith, other, three, l, m))
  ]
]

lower_swaps : (found : Option ℕ) (i j : ℕ) → lower (Some (lower found i)) j ≡ lower (Some (lower found j)) i
lower_swaps None i j =
    let s = lower_is i j in
    let t = lower_is j i in
    let one : lower (Some i) j ≤ lower (Some j) i = elim t.is_one [ inl e ↦ (let l = s.to_other in omega (arith, e, l)) | inr e ↦ (let l = s.to_one in omega (arith, e, l)) ] in
    let other : lower (Some j) i ≤ lower (Some i) j = elim s.is_one [ inl e ↦ (let l = t.to_other in omega (arith, e, l)) | inr e ↦ (let l = t.to_one in omega (arith, e, l)) ] in
    omega (arith, one, other)
lower_swaps (Some a) i j =
    let p = lower (Some a) i in
    let q = lower (Some a) j in
    let one = lowest_of_three a i j p (lower (Some p) j) q (lower (Some q) i) (lower_is a i) (lower_is p j) (lower_is a j) (lower_is q i) in
    let other = lowest_of_three a j i q (lower (Some q) i) p (lower (Some p) j) (lower_is a j) (lower_is q i) (lower_is a i) (lower_is p j) in
    omega (arith, one, other)

swaps : (from : ℕ) (found : Option ℕ) (i j : ℕ) → lower_from from (lower_from from found i) j ≡ lower_from from (lower_from from found j) i
swaps from found i j = by (nat_le from i) (nat_le from j)
  where
    by : (a b : Bool) → cond b (Some (lower (cond a (Some (lower found i)) found) j)) (cond a (Some (lower found i)) found)
        ≡ cond a (Some (lower (cond b (Some (lower found j)) found) i)) (cond b (Some (lower found j)) found)
    by true true = ap (λ x. Some x) (lower_swaps found i j)
    by true false = refl
    by false true = refl
    by false false = refl

lowest_with : (from : ℕ) (found : Option ℕ) (i : ℕ) (ids : List ℕ) → lowest from found (with_id i ids) ≡ lowest from found (i ∷ ids)
lowest_with from found i [] = refl
lowest_with from found i (j ∷ ids) = elim (nat_lt i j) as (λ t. lowest from found (cond t (i ∷ j ∷ ids) (j ∷ with_id i ids)) ≡ lowest from found (i ∷ j ∷ ids)) [
  | true ↦ refl
  | false ↦ lowest_with from (lower_from from found j) i ids ∙ ap (λ o. lowest from o ids) (swaps from found j i)
]

pub lowest_ascending : (from : ℕ) (found : Option ℕ) (ids : List ℕ) → lowest from found (ascending ids) ≡ lowest from found ids
lowest_ascending from found [] = refl
lowest_ascending from found (i ∷ ids) = lowest_with from found i (ascending ids) ∙ lowest_ascending from (lower_from from found i) ids

pub written_is : (n : Namespace) (edit : Edit) → written n edit ≡ changed_ids (touched n edit)
written_is n (StartSegment profile) = refl
written_is n EndSegment = refl
written_is n (Mkdir p) = refl
written_is n (Add p r) = refl
written_is n (AddBlock p i stamp) = refl
written_is n (UpdateBlocks p bs) = ap ids_of (sym (just_blocks false bs))
written_is n (Close p bs) = ap ids_of (sym (just_blocks true bs))
written_is n (Append p) = ap ids_of (sym (just_blocks false (file_at n p).blocks))
written_is n (Rename s d) = refl
written_is n (Delete p) = refl
written_is n (SetReplication p r) = refl
written_is n (AllocateBlockId i) = refl
written_is n (SetGenstamp stamp) = refl

-- ---- The halves.

module _ (ids : List ℕ) (r : Rises ids) (from low high mid m : ℕ) (is : m ≡ get_or ids mid m) (le : low ≤ mid) (lt : mid < high) (within : high ≤ length ids) where
  pub below_mid : m < from → (k d : ℕ) → k < mid + 1 → get_or ids k d < from
  below_mid less k d at =
      let a = rises_at ids r k mid d (omega (arith, at)) (omega (arith, lt, within)) in
      let b = get_or_read ids mid m (omega (arith, lt, within)) is d in
      omega (arith, a, b, less)

  pub above_mid : from ≤ m → (k d : ℕ) → mid ≤ k → k < length ids → from ≤ get_or ids k d
  above_mid more k d at end =
      let a = rises_at ids r mid k d at end in
      let b = get_or_read ids mid m (omega (arith, lt, within)) is d in
      omega (arith, a, b, more)

pub found_at : (from low m : ℕ) (ids : List ℕ) → Rises ids → low < length ids → ((k d : ℕ) → k < low → get_or ids k d < from) → ((k d : ℕ) → low ≤ k → k < length ids → from ≤ get_or ids k d) →
    m ≡ get_or ids low m → Some m ≡ lowest from None ids
found_at from low m ids r lt below above is = ap (λ k. Some k) is ∙ sym (lowest_at from ids low m r lt below (above low m (omega arith) lt))

relisted_rises : (n : Namespace) (p : Path) (bs : List Block) → first_fault (list_checks n p bs) ≡ None → Rises (ids_of (drop (length bs) (file_at n p).blocks))
relisted_rises n p bs applies =
    left_out_rises (file_at n p).blocks bs (not-false _ (when_none _ _ (all_none (list_checks n p bs) applies).1.1.1.1.1.0))

pub retired_rises : (n : Namespace) (edit : Edit) → refusal n edit ≡ None → Rises (touched n edit).retired
retired_rises n (StartSegment profile) applies = tt
retired_rises n EndSegment applies = tt
retired_rises n (Mkdir p) applies = tt
retired_rises n (Add p r) applies = tt
retired_rises n (AddBlock p i stamp) applies = tt
retired_rises n (UpdateBlocks p bs) applies = relisted_rises n p bs applies
retired_rises n (Close p bs) applies = relisted_rises n p bs applies
retired_rises n (Append p) applies = tt
retired_rises n (Rename s d) applies = tt
retired_rises n (Delete p) applies = ascending_rises (ids_below n p)
retired_rises n (SetReplication p r) applies = tt
retired_rises n (AllocateBlockId i) applies = tt
retired_rises n (SetGenstamp stamp) applies = tt
