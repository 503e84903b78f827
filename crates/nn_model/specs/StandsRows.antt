-- Standbys that stand, and what is wrong with some that do not.
use Rattle.std.specs.Prelude.{◌≡◌, ℕ, is_some, Bool, true, false, List, [], ◌∷◌, ◌&&◌, length, take, Some, None, refl, ◌==◌, if◌then◌else◌}
use Rattle.std.specs.List.Sorted.{IsStrictlySortedBy}
use Rattle.std.proofs.Common.{subst, sym, inl, inr, ap, arith, rules}
use Rattle.std.proofs.lemmas.Bool.{both_ways}
use Rattle.nn_types.specs.declared.report.Message.{Message}
use Rattle.nn_types.specs.declared.report.Kind.TheVariants.{Received}
use Rattle.nn_types.specs.declared.event.Event.TheVariants.{Applied, Processed}
use Rattle.nn_types.specs.declared.event.Cause.TheVariants.{Due, Flush}
use Rattle.nn_types.specs.declared.profile.Profile.TheVariants.{One}
use Rattle.nn_types.specs.declared.edit.Edit.TheVariants.{StartSegment}
use Rattle.nn_types.specs.declared.tx.Tx.{Tx}
use Rattle.nn_model.specs.declared.form.Form.TheVariants.{Dir, File}
use Rattle.nn_model.specs.Namespace.{Namespace, root_alone}
use Rattle.nn_model.specs.Log.{namespace_after}
use Rattle.nn_model.specs.WellFormed.{Includes, HasWellFormedBlocks}
use Rattle.nn_model.specs.Lanes.{Lanes, no_messages}
use Rattle.nn_model.specs.Items.{items, NodeState, nothing_known, node_state, lane_items}
use Rattle.nn_model.specs.Held.{IsHeld, IsFree}
use Rattle.nn_model.specs.Lawful.{IsLawful}
use Rattle.nn_model.specs.History.{History, processed}
use Rattle.nn_model.specs.Stands.{StandbyState, IsLeft, Stands, fresh}
use Rattle.nn_model.specs.MessageRows.{tx, b, c, f, block, message, received, two_lanes, items_of_two, of_item, are_lanes, early_log, early_lanes, early_report}
use Rattle.nn_model.specs.MessageRowsLater.{unnamed_log, unnamed_lanes, unnamed_report, unnamed_history, promotion_flushes_unnamed_lawful}

root_blocks : HasWellFormedBlocks root_alone
unfolding IsStrictlySortedBy
root_blocks = record {
  in_order = refl;
  last_block_from = omega arith;
  awaiting_in_order = tt;
  awaiting_from = λ id e. absurd (both_ways _ refl e);
  once = λ id. omega arith;
  issued = λ block none. absurd none;
}

-- ---- Held messages, by block and then as they came.

abbrev report_of_c : Message
report_of_c = message 1 1 Received c 1002 5

abbrev first_of_b : Message
first_of_b = message 1 2 Received b 1001 5

abbrev second_of_b : Message
second_of_b = message 1 3 Received b 1001 6

abbrev other_of_b : Message
other_of_b = message 2 1 Received b 1001 7

abbrev waiting_lanes : Lanes
waiting_lanes = two_lanes (report_of_c ∷ first_of_b ∷ second_of_b ∷ []) (other_of_b ∷ [])

-- after the start of a segment, with four messages about ids that are not issued yet
abbrev waiting_log : List Tx
waiting_log = tx 1 (StartSegment One) ∷ []

-- and no full report is open
abbrev had_alone : List (ℕ × ℕ) → NodeState
had_alone has = record { has = has; begun = None }

abbrev waiting : StandbyState
waiting = record {
  namespace = root_alone;
  last = 1;
  history = Applied 1 ∷ [];
  replica = λ dn id. None;
  has_order = λ dn id. false;
  held = first_of_b ∷ other_of_b ∷ second_of_b ∷ report_of_c ∷ [];
  last_number = λ dn. if dn == 1 then 3 else if dn == 2 then 1 else 0;
  had = λ dn. if dn == 1 then had_alone ((b, 3) ∷ (c, 1) ∷ []) else if dn == 2 then had_alone ((b, 1) ∷ []) else nothing_known;
}

abbrev IsWaiting : Message → Type 0
IsWaiting m = IsLeft root_alone waiting_log (items waiting_lanes) (Applied 1 ∷ []) m

is_left : (m : Message) → Includes waiting.held m → IsWaiting m
is_left m (inl same) = subst IsWaiting same (record { sent = refl; held = refl; not_flushed = λ here. search rules })
is_left m (inr (inl same)) = subst IsWaiting same (record { sent = refl; held = refl; not_flushed = λ here. search rules })
is_left m (inr (inr (inl same))) = subst IsWaiting same (record { sent = refl; held = refl; not_flushed = λ here. search rules })
is_left m (inr (inr (inr (inl same)))) = subst IsWaiting same (record { sent = refl; held = refl; not_flushed = λ here. search rules })
is_left m (inr (inr (inr (inr none)))) = absurd none

waiting_stands : Stands root_alone 0 waiting_log waiting_lanes waiting
waiting_stands = record {
  log = search rules;
  well_formed = root_blocks;
  numbered = are_lanes (report_of_c ∷ first_of_b ∷ second_of_b ∷ []) (other_of_b ∷ []) (search rules) (search rules);
  namespace = refl;
  last = refl;
  lawful = record {
    applied_in_order = refl;
    sent = search rules;
    in_sending_order = search rules;
    waited = search rules;
    flush_last = search rules;
    flush_held = search rules;
    none_forgotten = of_item (λ m. IsFree root_alone (items waiting_lanes) m → Includes (Applied 1 ∷ []) (processed Due m))
        (report_of_c ∷ first_of_b ∷ second_of_b ∷ []) (other_of_b ∷ [])
        ((λ free. absurd (both_ways _ free refl)), ((λ free. absurd (both_ways _ free refl)), ((λ free. absurd (both_ways _ free refl)), tt)))
        ((λ free. absurd (both_ways _ free refl)), tt);
  };
  replicas = λ dn id. refl;
  orders = λ dn id. refl;
  held = λ m. (
    is_left m,
    (λ left. of_item (Includes waiting.held) (report_of_c ∷ first_of_b ∷ second_of_b ∷ []) (other_of_b ∷ [])
        (search rules) (search rules) m left.sent),
  );
  by_block = search rules;
  by_number = search rules;
  last_numbers = λ dn. elim (dn == 1) as (λ t. (if t then 3 else if dn == 2 then 1 else 0)
      ≡ length (if t then report_of_c ∷ first_of_b ∷ second_of_b ∷ [] else if dn == 2 then other_of_b ∷ [] else [])) [
        | true ↦ refl
        | false ↦ elim (dn == 2) as (λ t. (if t then 1 else 0) ≡ length (if t then other_of_b ∷ [] else [])) [ true ↦ refl | false ↦ refl ]
      ];
  had = λ dn. elim (dn == 1) as (λ t. (if t then had_alone ((b, 3) ∷ (c, 1) ∷ []) else if dn == 2 then had_alone ((b, 1) ∷ []) else nothing_known)
      ≡ node_state (lane_items (if t then report_of_c ∷ first_of_b ∷ second_of_b ∷ [] else if dn == 2 then other_of_b ∷ [] else []))) [
        | true ↦ refl
        | false ↦ elim (dn == 2) as (λ t. (if t then had_alone ((b, 1) ∷ []) else nothing_known) ≡ node_state (lane_items (if t then other_of_b ∷ [] else [])))
            [ true ↦ refl | false ↦ refl ]
      ];
}

-- ---- After a report that was released the table has its replica.

-- the block is named, and the file still open
abbrev named_log : List Tx
named_log = take 5 early_log

abbrev released : History
released = Applied 1 ∷ Applied 2 ∷ Applied 3 ∷ Applied 4 ∷ Applied 5 ∷ Processed 1 1 b Due ∷ []

abbrev serving : StandbyState
serving = record {
  namespace = namespace_after root_alone named_log;
  last = 5;
  history = released;
  replica = λ dn id. if (dn == 1) && (id == b) then Some (received 1001 5) else None;
  has_order = λ dn id. false;
  held = [];
  last_number = λ dn. if dn == 1 then 1 else 0;
  had = λ dn. if dn == 1 then had_alone ((b, 1) ∷ []) else nothing_known;
}

serving_stands : Stands root_alone 0 named_log early_lanes serving
serving_stands = record {
  log = search rules;
  well_formed = root_blocks;
  numbered = are_lanes (early_report ∷ []) [] (search rules) tt;
  namespace = refl;
  last = refl;
  lawful = record {
    applied_in_order = refl;
    sent = (tt, (tt, (tt, (tt, (tt, ((early_report, refl, refl, refl, refl), tt))))));
    in_sending_order = search rules;
    waited = search rules;
    flush_last = search rules;
    flush_held = search rules;
    none_forgotten = of_item (λ m. IsFree (namespace_after root_alone named_log) (items early_lanes) m → Includes released (processed Due m)) (early_report ∷ []) []
        ((λ free. search rules), tt) tt;
  };
  replicas = λ dn id. refl;
  orders = λ dn id. refl;
  held = λ m. (
    (λ none. absurd none),
    (λ left. absurd (of_item (λ y. IsHeld (namespace_after root_alone named_log) (items early_lanes) y → ⊥) (early_report ∷ []) []
        ((λ held. both_ways _ refl held), tt) tt m left.sent left.held)),
  );
  by_block = tt;
  by_number = tt;
  last_numbers = λ dn. elim (dn == 1) as (λ t. (if t then 1 else 0) ≡ length (if t then early_report ∷ [] else if dn == 2 then [] else [])) [
    | true ↦ refl
    | false ↦ elim (dn == 2) as (λ t. 0 ≡ length {A = Message} (if t then [] else [])) [ true ↦ refl | false ↦ refl ]
  ];
  had = λ dn. elim (dn == 1) as (λ t. (if t then had_alone ((b, 1) ∷ []) else nothing_known)
      ≡ node_state (lane_items (if t then early_report ∷ [] else if dn == 2 then [] else []))) [
        | true ↦ refl
        | false ↦ elim (dn == 2) as (λ t. nothing_known ≡ node_state (lane_items (if t then [] else []))) [ true ↦ refl | false ↦ refl ]
      ];
}

-- ---- After the flush nothing is held.

abbrev flushed : StandbyState
flushed = record {
  namespace = root_alone;
  last = 2;
  history = unnamed_history;
  replica = λ dn id. None;
  has_order = λ dn id. (dn == 1) && (id == b);
  held = [];
  last_number = λ dn. if dn == 1 then 1 else 0;
  had = λ dn. if dn == 1 then had_alone ((b, 1) ∷ []) else nothing_known;
}

order_of : (t : Bool) → t ≡ (if t then true else false)
order_of true = refl
order_of false = refl

flushed_stands : Stands root_alone 0 unnamed_log unnamed_lanes flushed
flushed_stands = record {
  log = search rules;
  well_formed = root_blocks;
  numbered = are_lanes (unnamed_report ∷ []) [] (search rules) tt;
  namespace = refl;
  last = refl;
  lawful = subst (λ l. IsLawful root_alone unnamed_log l unnamed_history) (sym (items_of_two (unnamed_report ∷ []) [])) promotion_flushes_unnamed_lawful;
  replicas = λ dn id. refl;
  orders = λ dn id. order_of ((dn == 1) && (id == b));
  held = λ m. (
    (λ none. absurd none),
    (λ left. of_item (λ y. (Includes unnamed_history (processed Flush y) → ⊥) → ⊥) (unnamed_report ∷ []) []
        ((λ unflushed. unflushed (search rules)), tt) tt m left.sent left.not_flushed),
  );
  by_block = tt;
  by_number = tt;
  last_numbers = λ dn. elim (dn == 1) as (λ t. (if t then 1 else 0) ≡ length (if t then unnamed_report ∷ [] else if dn == 2 then [] else [])) [
    | true ↦ refl
    | false ↦ elim (dn == 2) as (λ t. 0 ≡ length {A = Message} (if t then [] else [])) [ true ↦ refl | false ↦ refl ]
  ];
  had = λ dn. elim (dn == 1) as (λ t. (if t then had_alone ((b, 1) ∷ []) else nothing_known)
      ≡ node_state (lane_items (if t then unnamed_report ∷ [] else if dn == 2 then [] else []))) [
        | true ↦ refl
        | false ↦ elim (dn == 2) as (λ t. nothing_known ≡ node_state (lane_items (if t then [] else []))) [ true ↦ refl | false ↦ refl ]
      ];
}

-- ---- Standbys that do not stand, each for one reason.

the_log_skips : Stands root_alone 0 (tx 2 (StartSegment One) ∷ []) waiting_lanes waiting → ⊥
the_log_skips s = omega (arith, s.log.0)

abbrev twice : Namespace
twice = record {
  rows = ([], Dir) ∷ (f, File (record { replication = 1; closed = false; blocks = block b 1001 5 ∷ block b 1001 5 ∷ [] })) ∷ [];
  issued = record { last_block = b; last_stamp = 1001; awaiting = []; profile = One };
}

the_base_has_an_id_twice : Stands twice 0 [] no_messages (fresh twice 0) → ⊥
the_base_has_an_id_twice s = omega (arith, s.well_formed.once b)

a_lane_begins_with_two : Stands root_alone 0 waiting_log (two_lanes (first_of_b ∷ []) []) waiting → ⊥
a_lane_begins_with_two s = omega (arith, (s.numbered 1).1)

a_lane_has_another_datanodes : Stands root_alone 0 waiting_log (two_lanes (other_of_b ∷ []) []) waiting → ⊥
a_lane_has_another_datanodes s = omega (arith, (s.numbered 1).0)

another_namespace : Stands root_alone 0 waiting_log waiting_lanes (record waiting { namespace = record root_alone { issued = record root_alone.issued { last_block = b } } }) → ⊥
another_namespace s = omega (arith, ap (λ n. n.issued.last_block) s.namespace)

another_last_txid : Stands root_alone 0 waiting_log waiting_lanes (record waiting { last = 2 }) → ⊥
another_last_txid s = omega (arith, s.last)

another_history : Stands root_alone 0 waiting_log waiting_lanes (record waiting { history = [] }) → ⊥
another_history s = let e = s.lawful.applied_in_order in absurd (cc)

a_replica_of_a_held_message : Stands root_alone 0 waiting_log waiting_lanes (record waiting { replica = λ dn id. Some (received 1001 5) }) → ⊥
a_replica_of_a_held_message s = let e : Some (received 1001 5) ≡ None = s.replicas 1 b in absurd (cc)

an_order_for_a_held_message : Stands root_alone 0 waiting_log waiting_lanes (record waiting { has_order = λ dn id. true }) → ⊥
an_order_for_a_held_message s = both_ways _ (s.orders 1 b) refl

holds_what_was_not_sent : Stands root_alone 0 waiting_log no_messages (record waiting { held = first_of_b ∷ [] }) → ⊥
holds_what_was_not_sent s = let e : None ≡ Some first_of_b = ((s.held first_of_b).0 (inl refl)).sent in absurd (cc)

-- an id from before the first one is retired
abbrev free_report : Message
free_report = message 1 1 Received 1 1001 5

holds_what_is_free : Stands root_alone 0 waiting_log (two_lanes (free_report ∷ []) [])
    (record waiting { history = Applied 1 ∷ Processed 1 1 1 Due ∷ []; held = free_report ∷ [] }) → ⊥
holds_what_is_free s = both_ways _ refl ((s.held free_report).0 (inl refl)).held

holds_what_was_flushed : Stands root_alone 0 unnamed_log unnamed_lanes (record flushed { held = unnamed_report ∷ [] }) → ⊥
holds_what_was_flushed s = ((s.held unnamed_report).0 (inl refl)).not_flushed (inr (inr (inl refl)))

lost_a_held_message : Stands root_alone 0 waiting_log waiting_lanes (record waiting { held = first_of_b ∷ other_of_b ∷ second_of_b ∷ [] }) → ⊥
lost_a_held_message s = has_no_c ((s.held report_of_c).1 (is_left report_of_c (inr (inr (inr (inl refl))))))
  where
    has_no_c : Includes (first_of_b ∷ other_of_b ∷ second_of_b ∷ []) report_of_c → ⊥
    has_no_c (inl same) = omega (arith, ap (λ m. m.block) same)
    has_no_c (inr (inl same)) = omega (arith, ap (λ m. m.block) same)
    has_no_c (inr (inr (inl same))) = omega (arith, ap (λ m. m.block) same)
    has_no_c (inr (inr (inr none))) = none

not_by_block : Stands root_alone 0 waiting_log waiting_lanes (record waiting { held = report_of_c ∷ first_of_b ∷ other_of_b ∷ second_of_b ∷ [] }) → ⊥
not_by_block s = both_ways _ s.by_block.0 refl

not_by_number : Stands root_alone 0 waiting_log waiting_lanes (record waiting { held = second_of_b ∷ other_of_b ∷ first_of_b ∷ report_of_c ∷ [] }) → ⊥
not_by_number s = both_ways _ s.by_number.0 refl

holds_one_twice : Stands root_alone 0 waiting_log waiting_lanes
    (record waiting { held = first_of_b ∷ other_of_b ∷ second_of_b ∷ second_of_b ∷ report_of_c ∷ [] }) → ⊥
holds_one_twice s = both_ways _ s.by_number.1.1.0 refl

forgot_the_numbers : Stands root_alone 0 waiting_log waiting_lanes (record waiting { last_number = λ dn. 0 }) → ⊥
forgot_the_numbers s = omega (arith, s.last_numbers 1)

forgot_what_is_had : Stands root_alone 0 waiting_log waiting_lanes (record waiting { had = λ dn. nothing_known }) → ⊥
forgot_what_is_had s = let e : 0 ≡ 2 = ap (λ h. length h.has) (s.had 1) in omega (arith, e)

keeps_a_report_open : Stands root_alone 0 waiting_log waiting_lanes
    (record waiting { had = λ dn. record (waiting.had dn) { begun = Some 1 } }) → ⊥
keeps_a_report_open s = let e : true ≡ false = ap (λ h. is_some h.begun) (s.had 1) in both_ways _ e refl
