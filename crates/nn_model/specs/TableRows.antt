-- Lanes, histories, the sequential standby and the picture on small examples, computed.
use Rattle.std.specs.Prelude.{◌≡◌, true, false, [], ◌∷◌, map, take, Some, None, refl}
use Rattle.std.proofs.lemmas.Bool.{both_ways}
use Rattle.std.proofs.Common.{arith, ap}
use Rattle.nn_types.specs.declared.report.Message.{Message}
use Rattle.nn_types.specs.declared.report.Kind.TheVariants.{Receiving, Received, Deleted, Begin, Listed, Finish}
use Rattle.nn_types.specs.declared.event.Event.TheVariants.{Applied, Processed}
use Rattle.nn_types.specs.declared.event.Cause.TheVariants.{Due, Flush}
use Rattle.nn_types.specs.declared.edit.Edit.TheVariants.{Delete}
use Rattle.nn_model.specs.Namespace.{root_alone}
use Rattle.nn_model.specs.Log.{namespace_after}
use Rattle.nn_model.specs.Lanes.{no_messages, followed_by, AreNumbered, AreInOrder, message_of}
use Rattle.nn_model.specs.Held.{keeps_back, without_held}
use Rattle.nn_model.specs.History.{applied_txids, namespace_at, is_flush, processed, numbers_processed, times_processed}
use Rattle.nn_model.specs.Replay.{starting_at, is_named, leaves, reported, after_item, replay}
use Rattle.nn_model.specs.Picture.{last_said, last_replica, picture_replica, picture_order, ShowsPicture}
use Rattle.nn_model.specs.MessageRows.{tx, b, c, f, far, message, received, two_lanes, early_log, early_end, early_report, early_lanes, future_report, delete_behind, other_report, future_lanes, future_history}

-- ---- Lanes.

abbrev second_report : Message
second_report = message 1 2 Received b 1001 6

lanes_grow : let lanes = followed_by (followed_by (followed_by no_messages early_report) other_report) second_report in
    map lanes (0 ∷ 1 ∷ 2 ∷ 3 ∷ []) ≡ [] ∷ (early_report ∷ second_report ∷ []) ∷ (other_report ∷ []) ∷ [] ∷ []
lanes_grow = refl

messages_by_number : let lanes = two_lanes (early_report ∷ second_report ∷ []) (other_report ∷ []) in
    (map (λ k. message_of lanes 1 k b) (0 ∷ 1 ∷ 2 ∷ 3 ∷ []) ≡ None ∷ Some early_report ∷ Some second_report ∷ None ∷ [])
    × (map (λ k. message_of lanes 2 k b) (1 ∷ 2 ∷ []) ≡ Some other_report ∷ None ∷ [])
    × (message_of lanes 1 1 c ≡ None)
messages_by_number = (refl, refl, refl)

numbers_go_on : AreNumbered 1 1 (early_report ∷ second_report ∷ [])
numbers_go_on = (refl, refl, (refl, refl, tt))

numbers_begin_with_one : AreNumbered 1 0 (early_report ∷ []) → ⊥
numbers_begin_with_one numbered = omega (arith, numbered.1)

numbers_leave_no_gap : AreNumbered 1 1 (early_report ∷ message 1 3 Received b 1001 6 ∷ []) → ⊥
numbers_leave_no_gap numbered = omega (arith, numbered.2.1)

one_datanode_a_lane : AreNumbered 1 1 (early_report ∷ message 2 2 Received b 1001 6 ∷ []) → ⊥
one_datanode_a_lane numbered = omega (arith, numbered.2.0)

numbers_rise_or_blocks : AreInOrder 1 (early_report ∷ message 1 1 Received c 1001 5 ∷ message 1 3 Received b 1001 6 ∷ [])
numbers_rise_or_blocks = (refl, refl, (refl, refl, (refl, refl, tt)))

no_number_falls : AreInOrder 1 (second_report ∷ message 1 1 Received c 1001 5 ∷ []) → ⊥
no_number_falls order = both_ways _ order.1 refl

blocks_of_one_number_rise : AreInOrder 1 (message 1 1 Received c 1001 5 ∷ early_report ∷ []) → ⊥
blocks_of_one_number_rise order = both_ways _ order.1 refl

no_message_twice : AreInOrder 1 (early_report ∷ early_report ∷ []) → ⊥
no_message_twice order = both_ways _ order.1 refl

later_ones_in_order : AreInOrder 1 (early_report ∷ message 1 3 Received b 1001 6 ∷ second_report ∷ []) → ⊥
later_ones_in_order order = both_ways _ order.2.1 refl

ordered_for_one_datanode : AreInOrder 1 (early_report ∷ message 2 2 Received b 1001 6 ∷ []) → ⊥
ordered_for_one_datanode order = omega (arith, order.2.0)

-- ---- What keeps a message back: a message that is not due, itself or an earlier one, about the same block.

abbrev far_report_of_c : Message
far_report_of_c = message 1 1 Received c far 0

keeps_back_itself : keeps_back early_end future_report future_report ≡ true
keeps_back_itself = refl

keeps_back_later_ones : map (λ m. keeps_back early_end m future_report) (future_report ∷ delete_behind ∷ []) ≡ true ∷ true ∷ []
keeps_back_later_ones = refl

keeps_back_no_earlier_one : keeps_back early_end (message 1 1 Received b 1001 5) (message 1 2 Received b far 5) ≡ false
keeps_back_no_earlier_one = refl

keeps_back_no_other_block : keeps_back early_end (message 1 2 Received b 1001 5) far_report_of_c ≡ false
keeps_back_no_other_block = refl

due_keeps_back_none : keeps_back early_end delete_behind (message 1 1 Received b 1001 5) ≡ false
due_keeps_back_none = refl

held_are_left_out : map (without_held early_end future_lanes) (1 ∷ 2 ∷ 3 ∷ []) ≡ [] ∷ (other_report ∷ []) ∷ [] ∷ []
held_are_left_out = refl

some_are_left_out : without_held early_end (two_lanes (early_report ∷ message 1 2 Received c far 5 ∷ message 1 3 Received b 1001 6 ∷ []) []) 1
    ≡ early_report ∷ message 1 3 Received b 1001 6 ∷ []
some_are_left_out = refl

-- ---- Histories.

txids : applied_txids future_history ≡ 1 ∷ 2 ∷ 3 ∷ 4 ∷ 5 ∷ 6 ∷ 7 ∷ []
txids = refl

moments : (namespace_at root_alone early_log [] ≡ root_alone)
    × (namespace_at root_alone early_log (take 6 future_history) ≡ namespace_after root_alone (take 5 early_log))
moments = (refl, refl)

flushes : map is_flush (Applied 1 ∷ processed Due early_report ∷ processed Flush early_report ∷ []) ≡ false ∷ false ∷ true ∷ []
flushes = refl

numbers : (numbers_processed 1 b future_history ≡ 1 ∷ 2 ∷ []) × (numbers_processed 2 b future_history ≡ 1 ∷ []) × (numbers_processed 1 c future_history ≡ [])
numbers = (refl, refl, refl)

times_of_each : (map (λ k. times_processed 1 k b future_history) (0 ∷ 1 ∷ 2 ∷ 3 ∷ []) ≡ 0 ∷ 1 ∷ 1 ∷ 0 ∷ [])
    × (map (λ k. times_processed 2 k b future_history) (1 ∷ 2 ∷ []) ≡ 1 ∷ 0 ∷ [])
    × (times_processed 1 1 b (processed Due early_report ∷ Applied 1 ∷ processed Flush early_report ∷ []) ≡ 2)
    × (times_processed 1 1 c (processed Due early_report ∷ []) ≡ 0)
times_of_each = (refl, refl, refl, refl)

-- ---- The sequential standby.

abbrev writing : Message
writing = message 1 1 Receiving b 1001 2

-- a replica is set by each report, and taken away by a delete
replicas_change : let s = after_item (starting_at early_end) writing in
    (s.replica 1 b ≡ Some (record { stamp = 1001; len = 2; kind = Receiving })) × (s.has_order 1 b ≡ false) × (s.replica 2 b ≡ None) × (s.replica 1 c ≡ None)
    × ((after_item s second_report).replica 1 b ≡ Some (received 1001 6)) × ((after_item s delete_behind).replica 1 b ≡ None)
    × ((after_item s other_report).replica 1 b ≡ Some (record { stamp = 1001; len = 2; kind = Receiving }))
replicas_change = (refl, refl, refl, refl, refl, refl, refl)

-- only what is received or being received is a replica
no_replica_by_others : map (λ kind. reported (message 1 1 kind b 1001 5)) (Deleted ∷ Begin ∷ Listed ∷ Finish ∷ []) ≡ None ∷ None ∷ None ∷ None ∷ []
no_replica_by_others = refl

-- where no file holds the block, an order is
orders_change : let s = after_item (starting_at root_alone) writing in
    (s.has_order 1 b ≡ true) × (s.replica 1 b ≡ None) × (s.has_order 2 b ≡ false) × (s.has_order 1 c ≡ false)
    × ((after_item s second_report).has_order 1 b ≡ true) × ((after_item s delete_behind).has_order 1 b ≡ false)
    × ((after_item s other_report).has_order 1 b ≡ true)
orders_change = (refl, refl, refl, refl, refl, refl, refl)

blocks_leave : let gone = namespace_after early_end (tx 8 (Delete f) ∷ []) in
    (map (is_named early_end) (b ∷ c ∷ []) ≡ true ∷ false ∷ []) × (map (leaves early_end gone) (b ∷ c ∷ []) ≡ true ∷ false ∷ [])
    × (leaves early_end early_end b ≡ false) × (leaves gone early_end b ≡ false)
blocks_leave = (refl, refl, refl, refl)

-- a replica whose block leaves becomes an order of its DataNode alone, and orders stay
orders_from_edits : let s = replay early_end (tx 8 (Delete f) ∷ []) (two_lanes (early_report ∷ message 1 2 Received c 1001 5 ∷ []) [])
    (Processed 1 1 b Due ∷ Processed 1 2 c Flush ∷ Applied 8 ∷ []) in
    (s.has_order 1 b ≡ true) × (s.has_order 2 b ≡ false) × (s.replica 1 b ≡ None) × (s.has_order 1 c ≡ true)
orders_from_edits = (refl, refl, refl, refl)

-- an event of a transaction or a message that there is not does nothing
nothing_happens : let s = replay root_alone early_log early_lanes (Applied 9 ∷ Processed 3 1 b Due ∷ Processed 1 2 b Due ∷ []) in
    (s.namespace ≡ root_alone) × (s.has_order 3 b ≡ false) × (s.has_order 1 b ≡ false)
nothing_happens = (refl, refl, refl)

-- ---- The picture goes by the last word.

last_words : (last_said future_lanes 1 b ≡ Some delete_behind) × (last_said future_lanes 2 b ≡ Some other_report)
    × (last_said future_lanes 1 c ≡ None) × (last_said future_lanes 3 b ≡ None)
last_words = (refl, refl, refl, refl)

now_has : (last_replica future_lanes 1 b ≡ None) × (last_replica future_lanes 2 b ≡ Some (received 1001 5)) × (last_replica future_lanes 1 c ≡ None)
now_has = (refl, refl, refl)

pictures : (map (λ dn. picture_replica early_end future_lanes dn b) (1 ∷ 2 ∷ 3 ∷ []) ≡ None ∷ Some (received 1001 5) ∷ None ∷ [])
    × (map (λ dn. picture_order early_end future_lanes dn b) (1 ∷ 2 ∷ 3 ∷ []) ≡ false ∷ false ∷ false ∷ [])
    × (map (λ dn. picture_replica root_alone future_lanes dn b) (1 ∷ 2 ∷ 3 ∷ []) ≡ None ∷ None ∷ None ∷ [])
    × (map (λ dn. picture_order root_alone future_lanes dn b) (1 ∷ 2 ∷ 3 ∷ []) ≡ false ∷ true ∷ false ∷ [])
pictures = (refl, refl, refl, refl)

nothing_to_show : ShowsPicture root_alone no_messages (starting_at root_alone)
nothing_to_show = record { namespace = refl; replicas = λ dn id. refl; orders = λ dn id. refl }

shows_another_namespace : ShowsPicture root_alone no_messages (starting_at early_end) → ⊥
shows_another_namespace shows = omega (arith, ap (λ n. n.issued.last_block) shows.namespace)

lacks_a_replica : ShowsPicture early_end early_lanes (starting_at early_end) → ⊥
lacks_a_replica shows = let e : None ≡ Some (received 1001 5) = shows.replicas 1 b in absurd (cc)

lacks_an_order : ShowsPicture root_alone early_lanes (starting_at root_alone) → ⊥
lacks_an_order shows = both_ways _ refl (shows.orders 1 b)
