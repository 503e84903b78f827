-- Messages of lanes: how they are found, and what keeps them back.
use Rattle.std.proofs.Common.{◌≡◌, ℕ, ◌+◌, ◌≤◌, ◌<◌, true, false, List, [], ◌∷◌, ◌++◌, Some, refl, sym, ap, subst, ◌∙◌, inl, inr, arith}
use Rattle.std.specs.Prelude.{◌==◌, ◌&&◌, not, nat_lt}
use Rattle.std.proofs.lemmas.Bool.{both_ways, and_parts, and_from, or_cases, or_left, not-true, not-false, not_from_true, not_from_false, false_from_ne_true, lt-ltb, ltb-true, eqb-true, eq-eqb, leb-true, le-leb, cases_Bool, cond-true, cond-false}
use Rattle.nn_types.specs.declared.report.Message.{Message}
use Rattle.nn_model.specs.Namespace.{Namespace}
use Rattle.nn_model.specs.Status.{due_in}
use Rattle.nn_model.specs.WellFormed.{Includes}
use Rattle.nn_model.specs.Lanes.{Lanes, AreNumberedLanes, AreNumbered, AreInOrder, AreOrdered, comes_before, message_with, IsSent}
use Rattle.nn_model.specs.Held.{keeps_back, IsFree}
use Rattle.nn_model.proofs.Events.{any_false_at, any_none}
use Rattle.nn_model.proofs.Dues.{has_right}

-- ---- order of lanes

pub dn_of : (dn : ℕ) (ms : List Message) (m : Message) → AreInOrder dn ms → Includes ms m → m.dn ≡ dn
dn_of dn [] m order here = absurd here
dn_of dn (x ∷ ms) m order (inl same) = ap (λ y. y.dn) (sym same) ∙ order.0
dn_of dn (x ∷ ms) m order (inr here) = dn_of dn ms m order.2 here

-- what comes before has no greater number, and not the same number and block
before_parts : (x m : Message) → comes_before x m ≡ true → (x.number ≤ m.number) × (x.number ≡ m.number → x.block < m.block)
before_parts x m before = elim (or_cases (nat_lt x.number m.number) ((x.number == m.number) && nat_lt x.block m.block) before) [
  | inl less ↦ let l : x.number < m.number = ltb-true _ _ less in (omega (arith, l), λ same. omega (arith, l, same))
  | inr same ↦ let p = and_parts _ _ same in
      let n : x.number ≡ m.number = eqb-true _ _ p.0 in let l : x.block < m.block = ltb-true _ _ p.1 in (omega (arith, n), λ e. l)
]

pub before_later : (dn : ℕ) (x : Message) (ms : List Message) (m : Message) → AreInOrder dn (x ∷ ms) → Includes ms m →
    (x.number ≤ m.number) × (x.number ≡ m.number → x.block < m.block)
before_later dn x ms m order here = before_parts x m (not-false _ (any_false_at (λ later. not (comes_before x later)) ms m order.1 here))

-- what comes before the last of a lane
pub before_last : (dn : ℕ) (ms : List Message) (m y : Message) → AreInOrder dn (ms ++ m ∷ []) → Includes ms y →
    (y.number ≤ m.number) × (y.number ≡ m.number → y.block < m.block)
before_last dn [] m y order here = absurd here
before_last dn (x ∷ ms) m y order (inl same) =
    subst (λ z. (z.number ≤ m.number) × (z.number ≡ m.number → z.block < m.block)) same
    (before_later dn x (ms ++ m ∷ []) m order (has_right ms (m ∷ []) m (inl refl)))
before_last dn (x ∷ ms) m y order (inr here) = before_last dn ms m y order.2 here

-- a message of a lane is found by its number and its block
pub found_message : (dn : ℕ) (ms : List Message) (m : Message) → AreInOrder dn ms → Includes ms m → message_with m.number m.block ms ≡ Some m
found_message dn [] m order here = absurd here
found_message dn (x ∷ ms) m order (inl same) =
    subst (λ y. message_with y.number y.block (x ∷ ms) ≡ Some y) same
    (cond-true ((x.number == x.number) && (x.block == x.block)) (Some x) (message_with x.number x.block ms)
    (and_from _ _ (eq-eqb x.number x.number refl) (eq-eqb x.block x.block refl)))
found_message dn (x ∷ ms) m order (inr here) =
    let later = before_later dn x ms m order here in
    cond-false ((x.number == m.number) && (x.block == m.block)) (Some x) (message_with m.number m.block ms) (false_from_ne_true _ (λ both.
    let p = and_parts _ _ both in
    let number : x.number ≡ m.number = eqb-true _ _ p.0 in
    let block : x.block ≡ m.block = eqb-true _ _ p.1 in
    let less : x.block < m.block = later.1 number in
    omega arith))
    ∙ found_message dn ms m order.2 here

pub sent_from_lane : (lanes : Lanes) (dn : ℕ) (m : Message) → AreOrdered lanes → Includes (lanes dn) m → IsSent lanes m
sent_from_lane lanes dn m are here =
    subst (λ d. message_with m.number m.block (lanes d) ≡ Some m) (sym (dn_of dn (lanes dn) m (are dn) here)) (found_message dn (lanes dn) m (are dn) here)

in_lane : (number block : ℕ) (ms : List Message) (m : Message) → message_with number block ms ≡ Some m → Includes ms m
in_lane number block [] m found = absurd (cc)
in_lane number block (x ∷ ms) m found = elim (cases_Bool ((x.number == number) && (x.block == block))) [
  | inl same ↦ let e : Some x ≡ Some m = sym (cond-true ((x.number == number) && (x.block == block)) (Some x) (message_with number block ms) same) ∙ found in inl (cc)
  | inr other ↦ inr (in_lane number block ms m
      (sym (cond-false ((x.number == number) && (x.block == block)) (Some x) (message_with number block ms) other) ∙ found))
]

pub has_sent : (lanes : Lanes) (m : Message) → IsSent lanes m → Includes (lanes m.dn) m
has_sent lanes m sent = in_lane m.number m.block (lanes m.dn) m sent

-- two messages of one DataNode with one number about one block are one
pub one_sent : (lanes : Lanes) (m j : Message) → IsSent lanes m → IsSent lanes j → j.dn ≡ m.dn → j.number ≡ m.number → j.block ≡ m.block → j ≡ m
one_sent lanes m j sent j_sent dn number block =
    let one : Some j ≡ Some m = sym j_sent ∙ (λ i. message_with (number i) (block i) (lanes (dn i))) ∙ sent in cc

-- ---- messages that are numbered without a gap are in order

number_at_least : (dn k : ℕ) (ms : List Message) (m : Message) → AreNumbered dn k ms → Includes ms m → k ≤ m.number
number_at_least dn k [] m numbered here = absurd here
number_at_least dn k (x ∷ ms) m numbered (inl same) = subst (λ y. k ≤ y.number) same (omega (arith, numbered.1))
number_at_least dn k (x ∷ ms) m numbered (inr here) = omega (arith, number_at_least dn (k + 1) ms m numbered.2 here)

numbered_in_order : (dn k : ℕ) (ms : List Message) → AreNumbered dn k ms → AreInOrder dn ms
numbered_in_order dn k [] numbered = tt
numbered_in_order dn k (x ∷ ms) numbered = (
  numbered.0,
  any_none (λ later. not (comes_before x later)) ms (λ m here.
      let above : k + 1 ≤ m.number = number_at_least dn (k + 1) ms m numbered.2 here in
      let is : x.number ≡ k = numbered.1 in
      let less : x.number < m.number = omega arith in
      not_from_true _ (or_left _ _ (lt-ltb _ _ less))),
  numbered_in_order dn (k + 1) ms numbered.2,
)

pub lanes_in_order : (lanes : Lanes) → AreNumberedLanes lanes → AreOrdered lanes
lanes_in_order lanes numbered dn = numbered_in_order dn 1 (lanes dn) (numbered dn)

-- ---- what keeps a message back

pub keeps_from : (n : Namespace) (m j : Message) → j.block ≡ m.block → j.number ≤ m.number → due_in n j.block j.stamp ≡ false → keeps_back n m j ≡ true
keeps_from n m j block number late = and_from _ _ (and_from _ _ (eq-eqb _ _ block) (le-leb _ _ number)) (not_from_false _ late)

pub kept_by : (n : Namespace) (m j : Message) → keeps_back n m j ≡ true → (j.block ≡ m.block) × (j.number ≤ m.number) × (due_in n j.block j.stamp ≡ false)
kept_by n m j kept =
    let outer = and_parts _ _ kept in
    let inner = and_parts _ _ outer.0 in
    (eqb-true _ _ inner.0, leb-true _ _ inner.1, not-true _ outer.1)

-- a message that nothing holds is due
pub free_is_due : (n : Namespace) (lanes : Lanes) (m : Message) → IsSent lanes m → IsFree n lanes m → due_in n m.block m.stamp ≡ true
free_is_due n lanes m sent free = elim (cases_Bool (due_in n m.block m.stamp)) [
  | inl due ↦ due
  | inr late ↦ absurd (both_ways _ (any_false_at (keeps_back n m) (lanes m.dn) m free (has_sent lanes m sent)) (keeps_from n m m refl (omega arith) late))
]
