-- Facts on lists and on histories, one event at a time.
use Rattle.std.proofs.Common.{◌≡◌, ℕ, ◌+◌, ◌≤◌, Bool, true, false, List, [], ◌∷◌, ◌++◌, length, take, map, Some, refl, sym, ap, subst, ◌∙◌, inl, inr, arith, append_assoc, append-nil, length-append}
use Rattle.std.specs.Prelude.{◌⊎◌, ◌&&◌, ◌==◌, nat_le, IfSome}
use Rattle.std.specs.List.{list_any}
use Rattle.std.proofs.lemmas.Bool.{or_parts, or_from, or_cases, or_left, or_right, both_ways, and_parts, and_from, eq-eqb, leb-true, le-leb, false_from_ne_true}
use Rattle.std.proofs.lemmas.List.Elements.{filter_map-append}
use Rattle.std.proofs.lemmas.List.{length-map}
use Rattle.std.proofs.Math.Seq.{take-length}
use Rattle.nn_types.specs.declared.report.Message.{Message}
use Rattle.nn_types.specs.declared.event.Event.{Event}
use Rattle.nn_types.specs.declared.event.Event.TheVariants.{Applied, Processed}
use Rattle.nn_types.specs.declared.event.Cause.{Cause}
use Rattle.nn_types.specs.declared.event.Cause.TheVariants.{Due, Flush}
use Rattle.nn_types.specs.declared.tx.Tx.{Tx}
use Rattle.nn_model.specs.Namespace.{Namespace}
use Rattle.nn_model.specs.WellFormed.{Includes}
use Rattle.nn_model.specs.Log.{namespace_after}
use Rattle.nn_model.specs.Lanes.{Lanes, message_of, IsSent}
use Rattle.nn_model.specs.Held.{IsHeld, IsFree}
use Rattle.nn_model.specs.History.{History, EachAfter, applied_txid, applied_txids, namespace_at, processed}
use Rattle.nn_model.specs.Lawful.{NamesItem, WaitedItsTurn, FlushesHeld, processes_from, IsLawful}

-- ---- list_any

pub any_false_at : {A : Type 0} (p : A → Bool) (xs : List A) (x : A) → list_any p xs ≡ false → Includes xs x → p x ≡ false
any_false_at p [] x none here = absurd here
any_false_at p (y ∷ xs) x none (inl same) = ap p (sym same) ∙ (or_parts _ _ none).0
any_false_at p (y ∷ xs) x none (inr here) = any_false_at p xs x (or_parts _ _ none).1 here

pub any_true_at : {A : Type 0} (p : A → Bool) (xs : List A) (x : A) → p x ≡ true → Includes xs x → list_any p xs ≡ true
any_true_at p [] x holds here = absurd here
any_true_at p (y ∷ xs) x holds (inl same) = or_left _ _ (ap p same ∙ holds)
any_true_at p (y ∷ xs) x holds (inr here) = or_right _ _ (any_true_at p xs x holds here)

pub any_found : {A : Type 0} (p : A → Bool) (xs : List A) → list_any p xs ≡ true → (x : A) × Includes xs x × (p x ≡ true)
any_found p [] holds = absurd (both_ways false refl holds)
any_found p (x ∷ xs) holds = elim (or_cases (p x) (list_any p xs) holds) [
  | inl here ↦ (x, inl refl, here)
  | inr later ↦ let found = any_found p xs later in (found.0, inr found.1, found.2)
]

pub any_none : {A : Type 0} (p : A → Bool) (xs : List A) → ((x : A) → Includes xs x → p x ≡ false) → list_any p xs ≡ false
any_none p [] each = refl
any_none p (x ∷ xs) each = or_from _ _ (each x (inl refl)) (any_none p xs (λ y here. each y (inr here)))

pub any-append : {A : Type 0} (p : A → Bool) (xs ys : List A) → list_any p xs ≡ false → list_any p ys ≡ false → list_any p (xs ++ ys) ≡ false
any-append p [] ys a b = b
any-append p (x ∷ xs) ys a b = or_from _ _ (or_parts _ _ a).0 (any-append p xs ys (or_parts _ _ a).1 b)

pub any_left : {A : Type 0} (p : A → Bool) (xs ys : List A) → list_any p (xs ++ ys) ≡ false → list_any p xs ≡ false
any_left p [] ys none = refl
any_left p (x ∷ xs) ys none = or_from _ _ (or_parts _ _ none).0 (any_left p xs ys (or_parts _ _ none).1)

pub any_right : {A : Type 0} (p : A → Bool) (xs ys : List A) → list_any p (xs ++ ys) ≡ false → list_any p ys ≡ false
any_right p [] ys none = none
any_right p (x ∷ xs) ys none = any_right p xs ys (or_parts _ _ none).1

pub any_either : {A : Type 0} (p : A → Bool) (xs ys : List A) → list_any p (xs ++ ys) ≡ true → (list_any p xs ≡ true) ⊎ (list_any p ys ≡ true)
any_either p [] ys hit = inr hit
any_either p (x ∷ xs) ys hit = elim (or_cases (p x) (list_any p (xs ++ ys)) hit) [
  | inl here ↦ inl (or_left _ _ here)
  | inr there ↦ elim (any_either p xs ys there) [ inl a ↦ inl (or_right _ _ a) | inr b ↦ inr b ]
]

pub any_kept : {A : Type 0} (p : A → Bool) (xs ys : List A) → list_any p xs ≡ true → list_any p (xs ++ ys) ≡ true
any_kept p [] ys hit = absurd (both_ways _ refl hit)
any_kept p (x ∷ xs) ys hit = elim (or_cases (p x) (list_any p xs) hit) [ inl here ↦ or_left _ _ here | inr later ↦ or_right _ _ (any_kept p xs ys later) ]

pub any_push : {A : Type 0} (p : A → Bool) (xs : List A) (x : A) → list_any p xs ≡ false → p x ≡ false → list_any p (xs ++ x ∷ []) ≡ false
any_push p xs x none last = any-append p xs (x ∷ []) none (or_from _ _ last refl)

pub any_last : {A : Type 0} (p : A → Bool) (xs : List A) (x : A) → p x ≡ true → list_any p (xs ++ x ∷ []) ≡ true
any_last p [] x hit = or_left _ _ hit
any_last p (y ∷ xs) x hit = or_right _ _ (any_last p xs x hit)

pub any_weaker : {A : Type 0} (p q : A → Bool) → ((x : A) → q x ≡ true → p x ≡ true) → (xs : List A) → list_any p xs ≡ false → list_any q xs ≡ false
any_weaker p q step [] none = refl
any_weaker p q step (x ∷ xs) none =
    or_from _ _ (false_from_ne_true _ (λ hit. both_ways _ (or_parts _ _ none).0 (step x hit))) (any_weaker p q step xs (or_parts _ _ none).1)

-- ---- facts of each event

-- a fact of each event, from another, where `whole` is the history that they stand in
pub each_weaker : (P Q : History → Event → Type 0) (before events whole : History) → before ++ events ≡ whole →
    ((b : History) (event : Event) (rest : History) → b ++ event ∷ rest ≡ whole → P b event → Q b event) → EachAfter P before events → EachAfter Q before events
each_weaker P Q before [] whole is step all = tt
each_weaker P Q before (x ∷ events) whole is step all =
    (step before x events is all.0, each_weaker P Q (before ++ x ∷ []) events whole (append_assoc before (x ∷ []) events ∙ is) step all.1)

-- ---- reaching a number

pub reaches_less : (dn id low high : ℕ) → low ≤ high → (e : Event) → processes_from dn id high e ≡ true → processes_from dn id low e ≡ true
reaches_less dn id low high le (Applied txid) hit = absurd (both_ways _ refl hit)
reaches_less dn id low high le (Processed d k b c) hit =
    let parts = and_parts ((d == dn) && (b == id)) (nat_le high k) hit in
    let there : high ≤ k = leb-true high k parts.1 in
    let here : low ≤ k = omega arith in
    and_from _ _ parts.0 (le-leb _ _ here)

-- a message that was processed was reached
pub reached_by : (cause : Cause) (h : History) (m : Message) → Includes h (processed cause m) → list_any (processes_from m.dn m.block m.number) h ≡ true
reached_by cause h m here =
    any_true_at (processes_from m.dn m.block m.number) h (processed cause m)
    (and_from _ _ (and_from _ _ (eq-eqb m.dn m.dn refl) (eq-eqb m.block m.block refl)) (le-leb m.number m.number (omega arith))) here

-- ---- what a lawful history says of an event, joined into one fact

abbrev pub MayBeProcessed : Namespace → List Tx → Lanes → History → Cause → Message → Type 0
MayBeProcessed start txs lanes before Due m = IsFree (namespace_at start txs before) lanes m
MayBeProcessed start txs lanes before Flush m = IsHeld (namespace_after start txs) lanes m

abbrev pub Tells : Namespace → List Tx → Lanes → History → Event → Type 0
Tells start txs lanes before (Applied txid) = Unit {0}
Tells start txs lanes before (Processed dn number block cause) =
    (m : Message) × IsSent lanes m × (m.dn ≡ dn) × (m.number ≡ number) × (m.block ≡ block) × MayBeProcessed start txs lanes before cause m

-- the message that an event names is found by the event's DataNode, number and block
pub named_found : (lanes : Lanes) (m : Message) (dn number block : ℕ) → IsSent lanes m → m.dn ≡ dn → m.number ≡ number → m.block ≡ block →
    message_of lanes dn number block ≡ Some m
named_found lanes m dn number block sent is_dn is_number is_block =
    (λ i. message_of lanes (sym is_dn i) (sym is_number i) (sym is_block i)) ∙ sent

pub at_found : (lanes : Lanes) (m : Message) (dn number block : ℕ) (P : Message → Type 0) → IsSent lanes m → m.dn ≡ dn → m.number ≡ number →
    m.block ≡ block → IfSome (message_of lanes dn number block) P → P m
at_found lanes m dn number block P sent is_dn is_number is_block holds =
    subst (λ o. IfSome o P) (named_found lanes m dn number block sent is_dn is_number is_block) holds

pub from_found : (lanes : Lanes) (m : Message) (dn number block : ℕ) (P : Message → Type 0) → IsSent lanes m → m.dn ≡ dn → m.number ≡ number →
    m.block ≡ block → P m → IfSome (message_of lanes dn number block) P
from_found lanes m dn number block P sent is_dn is_number is_block holds =
    subst (λ o. IfSome o P) (sym (named_found lanes m dn number block sent is_dn is_number is_block)) holds

tells : (start : Namespace) (txs : List Tx) (lanes : Lanes) (before : History) (event : Event) →
    NamesItem lanes before event → WaitedItsTurn start txs lanes before event → FlushesHeld start txs lanes before event → Tells start txs lanes before event
tells start txs lanes before (Applied txid) names waited held = tt
tells start txs lanes before (Processed dn number block Due) names waited held = (
  names.0,
  names.1,
  names.2,
  names.3,
  names.4,
  at_found lanes names.0 dn number block
      (IsFree (namespace_at start txs before) lanes) names.1 names.2 names.3 names.4 waited,
)
tells start txs lanes before (Processed dn number block Flush) names waited held = (
  names.0,
  names.1,
  names.2,
  names.3,
  names.4,
  at_found lanes names.0 dn number block (IsHeld (namespace_after start txs) lanes) names.1 names.2 names.3 names.4
      held,
)

each_tells : (start : Namespace) (txs : List Tx) (lanes : Lanes) (before events : History) →
    EachAfter (NamesItem lanes) before events → EachAfter (WaitedItsTurn start txs lanes) before events →
    EachAfter (FlushesHeld start txs lanes) before events →
    EachAfter (Tells start txs lanes) before events
each_tells start txs lanes before [] names waited held = tt
each_tells start txs lanes before (event ∷ events) names waited held =
    (tells start txs lanes before event names.0 waited.0 held.0, each_tells start txs lanes (before ++ event ∷ []) events names.1 waited.1 held.1)

pub lawful_tells : (start : Namespace) (txs : List Tx) (lanes : Lanes) (h : History) → IsLawful start txs lanes h → EachAfter (Tells start txs lanes) [] h
lawful_tells start txs lanes h lawful = each_tells start txs lanes [] h lawful.sent lawful.waited lawful.flush_held

-- ---- the namespace of a moment

pub applied_more : (before : History) (txid : ℕ) → length (applied_txids (before ++ Applied txid ∷ [])) ≡ length (applied_txids before) + 1
applied_more before txid = ap length (filter_map-append applied_txid before (Applied txid ∷ [])) ∙ length-append (applied_txids before) (txid ∷ [])

pub same_moment : (start : Namespace) (txs : List Tx) (before : History) (d k c : ℕ) (cause : Cause) →
    namespace_at start txs (before ++ Processed d k c cause ∷ []) ≡ namespace_at start txs before
same_moment start txs before d k c cause =
    ap (λ ids. namespace_after start (take (length ids) txs))
    (filter_map-append applied_txid before (Processed d k c cause ∷ []) ∙ append-nil (applied_txids before))

pub at_end : (start : Namespace) (txs : List Tx) (h : History) → applied_txids h ≡ map (λ (tx : Tx). tx.txid) txs →
    namespace_at start txs h ≡ namespace_after start txs
at_end start txs h all =
    ap (λ ids. namespace_after start (take (length ids) txs)) all
    ∙ ap (λ k. namespace_after start (take k txs)) (length-map txs (λ (tx : Tx). tx.txid)) ∙ ap (namespace_after start) (take-length txs)
