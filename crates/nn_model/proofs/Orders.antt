-- Each message is processed at most once, and those of one DataNode about one block in sending order.
use Rattle.std.proofs.Common.{◌≡◌, ℕ, ◌+◌, ◌≤◌, ◌<◌, true, false, cond, [], ◌∷◌, ◌++◌, Some, None, refl, sym, ap, ◌∙◌, inl, inr, ⊎_elim, arith}
use Rattle.std.specs.Prelude.{◌&&◌, ◌==◌, nat_le}
use Rattle.std.specs.List.{list_any, cons_option, AllByRecursion}
use Rattle.std.specs.List.Sorted.{IsStrictlySortedBy}
use Rattle.std.specs.Ordering.{nat_cmp}
use Rattle.std.specs.Cmp.{nat_cmp_is}
use Rattle.std.specs.declared.cmp.Ordering.TheVariants.{Less}
use Rattle.std.proofs.lemmas.Bool.{both_ways, and_parts, and_from, eqb-true, eq-eqb, le-leb, cases_lt, cases_Bool}
use Rattle.nn_types.specs.declared.report.Message.{Message}
use Rattle.nn_types.specs.declared.event.Event.{Event}
use Rattle.nn_types.specs.declared.event.Event.TheVariants.{Applied, Processed}
use Rattle.nn_model.specs.Lanes.{Lanes, IsSent}
use Rattle.nn_model.specs.History.{History, EachAfter, numbers_processed, times_processed}
use Rattle.nn_model.specs.Lawful.{NamesItem, NumberRises, processes_from}
use Rattle.nn_types.specs.declared.event.Cause.{Cause}
use Rattle.nn_types.specs.declared.event.Cause.TheVariants.{Due, Flush}
use Rattle.nn_model.specs.WellFormed.{Includes}
use Rattle.nn_model.specs.Log.{namespace_after}
use Rattle.nn_model.specs.Held.{is_held}
use Rattle.nn_model.specs.History.{processes, processed}
use Rattle.nn_model.specs.HistoryLaws.{ProcessedOnce, InSendingOrder, EachOnce}
use Rattle.nn_model.proofs.Events.{any_kept, any_last}

-- ---- sending order

-- before an event that the history reached with this number, no number up to it can come again
above : (dn block k : ℕ) (before events : History) → ((j : ℕ) → j ≤ k → list_any (processes_from dn block j) before ≡ true) → EachAfter NumberRises before events →
    AllByRecursion (λ j. nat_cmp k j ≡ Less) (numbers_processed dn block events)
above dn block k before [] reached rises = tt
above dn block k before (Applied txid ∷ events) reached rises =
    above dn block k (before ++ Applied txid ∷ []) events (λ j le. any_kept (processes_from dn block j) before (Applied txid ∷ []) (reached j le)) rises.1
above dn block k before (Processed d number b cause ∷ events) reached rises =
    let event : Event = Processed d number b cause in
    let rest = above dn block k (before ++ event ∷ []) events (λ j le. any_kept (processes_from dn block j) before (event ∷ []) (reached j le)) rises.1 in
    elim ((d == dn) && (b == block)) as (λ t. ((d == dn) && (b == block)) ≡ t →
    AllByRecursion (λ j. nat_cmp k j ≡ Less) (cons_option (cond t (Some number) None) (numbers_processed dn block events))) [
      | true ↦ λ hit.
          let is = and_parts (d == dn) (b == block) hit in
          let none : list_any (processes_from dn block number) before ≡ false =
          (λ i. list_any (processes_from (sym (eqb-true d dn is.0) i) (sym (eqb-true b block is.1) i) number) before) ∙ rises.0 in (
            ⊎_elim (λ (less : k < number). sym (nat_cmp_is k number Less less)) (λ (le : number ≤ k). absurd (both_ways _ none (reached number le)))
                (cases_lt k number),
            rest,
          )
      | false ↦ λ miss. rest
    ] refl

sorted : (dn block : ℕ) (before events : History) → EachAfter NumberRises before events → IsStrictlySortedBy nat_cmp (numbers_processed dn block events)
unfolding IsStrictlySortedBy
sorted dn block before [] rises = tt
sorted dn block before (Applied txid ∷ events) rises = sorted dn block (before ++ Applied txid ∷ []) events rises.1
sorted dn block before (Processed d number b cause ∷ events) rises =
    let event : Event = Processed d number b cause in
    let rest = sorted dn block (before ++ event ∷ []) events rises.1 in
    elim ((d == dn) && (b == block)) as (λ t. ((d == dn) && (b == block)) ≡ t →
    IsStrictlySortedBy nat_cmp (cons_option (cond t (Some number) None) (numbers_processed dn block events))) [
      | true ↦ λ hit. (
        above dn block number (before ++ event ∷ []) events
            (λ j le. any_last (processes_from dn block j) before event (and_from ((d == dn) && (b == block)) (nat_le j number) hit (le-leb j number le))) rises.1,
        rest,
      )
      | false ↦ λ miss. rest
    ] refl

pub in_sending_order : InSendingOrder
in_sending_order start txs lanes events lawful dn block = sorted dn block [] events lawful.in_sending_order

-- ---- once

-- after a message was processed it is processed no more
none_again : (lanes : Lanes) (m : Message) (before events : History) → IsSent lanes m → list_any (processes_from m.dn m.block m.number) before ≡ true →
    EachAfter (NamesItem lanes) before events → EachAfter NumberRises before events → times_processed m.dn m.number m.block events ≡ 0
none_again lanes m before [] sent reached names rises = refl
none_again lanes m before (Applied txid ∷ events) sent reached names rises =
    omega (
      arith,
      none_again lanes m (before ++ Applied txid ∷ []) events sent
          (any_kept (processes_from m.dn m.block m.number) before (Applied txid ∷ []) reached) names.1 rises.1,
    )
none_again lanes m before (Processed d k b cause ∷ events) sent reached names rises =
    let event : Event = Processed d k b cause in
    let rest = none_again lanes m (before ++ event ∷ []) events sent (any_kept (processes_from m.dn m.block m.number) before (event ∷ []) reached) names.1 rises.1 in
    elim ((d == m.dn) && (k == m.number) && (b == m.block)) as (λ t. ((d == m.dn) && (k == m.number) && (b == m.block)) ≡ t → cond t 1 0 + times_processed m.dn m.number m.block events ≡ 0) [
      | true ↦ λ hit.
          let outer = and_parts ((d == m.dn) && (k == m.number)) (b == m.block) hit in
          let is = and_parts (d == m.dn) (k == m.number) outer.0 in
          let dn : d ≡ m.dn = eqb-true d m.dn is.0 in
          let number : k ≡ m.number = eqb-true k m.number is.1 in
          let block : b ≡ m.block = eqb-true b m.block outer.1 in
          absurd (both_ways _ rises.0 ((λ i. list_any (processes_from (dn i) (block i) (number i)) before) ∙ reached))
      | false ↦ λ miss. omega (arith, rest)
    ] refl

at_most_once : (lanes : Lanes) (dn number block : ℕ) (before events : History) → EachAfter (NamesItem lanes) before events → EachAfter NumberRises before events →
    times_processed dn number block events ≤ 1
at_most_once lanes dn number block before [] names rises = omega arith
at_most_once lanes dn number block before (Applied txid ∷ events) names rises =
    omega (arith, at_most_once lanes dn number block (before ++ Applied txid ∷ []) events names.1 rises.1)
at_most_once lanes dn number block before (Processed d k b cause ∷ events) names rises =
    let event : Event = Processed d k b cause in
    let rest = at_most_once lanes dn number block (before ++ event ∷ []) events names.1 rises.1 in
    elim ((d == dn) && (k == number) && (b == block)) as (λ t. ((d == dn) && (k == number) && (b == block)) ≡ t → cond t 1 0 + times_processed dn number block events ≤ 1) [
      | true ↦ λ hit.
          let outer = and_parts ((d == dn) && (k == number)) (b == block) hit in
          let is = and_parts (d == dn) (k == number) outer.0 in
          let m = names.0.0 in
          let none : times_processed m.dn m.number m.block events ≡ 0 = none_again lanes m (before ++ event ∷ []) events names.0.1
          (any_last (processes_from m.dn m.block m.number) before event
          (and_from _ _ (and_from _ _ (eq-eqb _ _ (sym names.0.2)) (eq-eqb _ _ (sym names.0.4)))
          (le-leb m.number k (omega (arith, names.0.3))))) names.1 rises.1 in
          let same : times_processed dn number block events ≡ 0 =
          (λ i. times_processed ((sym (eqb-true d dn is.0) ∙ sym names.0.2) i) ((sym (eqb-true k number is.1) ∙ sym names.0.3) i)
          ((sym (eqb-true b block outer.1) ∙ sym names.0.4) i) events) ∙ none in
          omega (arith, same)
      | false ↦ λ miss. omega (arith, rest)
    ] refl

pub processed_once : ProcessedOnce
processed_once start txs lanes events lawful dn number block = at_most_once lanes dn number block [] events lawful.sent lawful.in_sending_order

-- an event of the history that processes the message is counted
at_least_once : (m : Message) (cause : Cause) (events : History) → Includes events (processed cause m) → 1 ≤ times_processed m.dn m.number m.block events
at_least_once m cause [] here = absurd here
at_least_once m cause (event ∷ events) (inl same) =
    let hit : processes m.dn m.number m.block event ≡ true =
    ap (processes m.dn m.number m.block) same ∙ and_from _ _ (and_from _ _ (eq-eqb m.dn m.dn refl) (eq-eqb m.number m.number refl)) (eq-eqb m.block m.block refl) in
    let one : times_processed m.dn m.number m.block (event ∷ events) ≡ 1 + times_processed m.dn m.number m.block events =
    ap (λ t. cond t 1 0 + times_processed m.dn m.number m.block events) hit in
    omega (arith, one)
at_least_once m cause (event ∷ events) (inr later) = let rest = at_least_once m cause events later in omega (arith, rest)

pub each_once : EachOnce
each_once start txs lanes events lawful whole m sent =
    let most = processed_once start txs lanes events lawful m.dn m.number m.block in
    let least : 1 ≤ times_processed m.dn m.number m.block events =
    elim (cases_Bool (is_held (namespace_after start txs) (lanes m.dn) m)) [
      | inl waits ↦ at_least_once m Flush events (whole m sent waits)
      | inr free ↦ at_least_once m Due events (lawful.none_forgotten m sent free)
    ] in
    omega (arith, most, least)
