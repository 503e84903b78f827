-- What a standby with lanes shows, on small examples, computed.
use Rattle.std.specs.Prelude.{◌≡◌, ℕ, ◌≤◌, Bool, true, false, List, [], ◌∷◌, length, Some, None, Ok, Err, refl, map, slice_index_or}
use Rattle.std.proofs.Common.{arith, ap}
use Rattle.std.proofs.lemmas.Bool.{both_ways}
use Rattle.nn_types.specs.declared.report.Message.{Message}
use Rattle.nn_types.specs.declared.report.Kind.TheVariants.{Received}
use Rattle.nn_types.specs.declared.edit_fault.EditFault.TheVariants.{Missing}
use Rattle.nn_segment.specs.LogEnd.{refused, disorder}
use Rattle.nn_segment.specs.Source.{end}
use Rattle.nn_segment.specs.declared.fault.SourceFault.TheVariants.{Gone}
use Rattle.nn_lane.specs.Ends.{LaneId, LaneEnd}
use Rattle.nn_lane_standby.specs.declared.standby.Choice.TheVariants.{Edit, Lane}
use Rattle.nn_lane_standby.specs.declared.standby.Stepped.TheVariants.{Handed, Empty}
use Rattle.nn_lane_standby.specs.LaneSteps.{ClosesEnd, CloseEnds, LookedOnce, LaneMoves}
use Rattle.nn_lane_standby.specs.Refusals.{step_refusal, promote_refusal}
use Rattle.nn_lane_standby.specs.Tailing.{Standby, handed, handed_all, by_node, log_cause, EndsInEnd, AllTaken}
use Rattle.nn_lane_standby.specs.Reads.{EndsInFault}
use Rattle.nn_shadow.specs.declared.fault.StopCause.TheVariants.{Refused, Disorder}
use Rattle.nn_lane_standby.specs.Fault.{number_of_step, number_of_promotion}
use Rattle.nn_lane_standby.specs.declared.fault.StepFault.TheVariants.{AlreadyActive, Stopped, BadLane, LogNotEnded, OutOfMemory}
use Rattle.nn_lane_standby.specs.declared.fault.PromoteFault.TheVariants as promotion

-- reports of DataNodes 1 and 2
abbrev message : ℕ → ℕ → Message
message dn number = record { dn = dn; number = number; block = 1073741825; stamp = 1001; len = 5; kind = Received }

abbrev first : Message
first = message 1 1

abbrev second : Message
second = message 1 2

abbrev other : Message
other = message 2 1

-- a message that was taken and is undelivered is not handed on yet
undelivered_back : (handed (first ∷ second ∷ []) (Some second) ≡ first ∷ []) × (handed (first ∷ second ∷ []) None ≡ first ∷ second ∷ [])
undelivered_back = (refl, refl)

-- an end that saw so many messages accepted when it last looked
abbrev taking : LaneId → List Message → ℕ → Bool → LaneEnd
taking l got seen closed = record { lane = l; got = got; seen = seen; loads = 0; closed = closed }

handed_lane_by_lane : (l : LaneId)
    → handed_all (taking l (first ∷ second ∷ []) 2 false ∷ taking l (other ∷ []) 1 false ∷ []) (Some second ∷ None ∷ []) ≡ (first ∷ []) ∷ (other ∷ []) ∷ []
handed_lane_by_lane l = refl

-- DataNodes count from 1
lanes_by_datanode : map (by_node ((first ∷ second ∷ []) ∷ (other ∷ []) ∷ [])) (0 ∷ 1 ∷ 2 ∷ 3 ∷ []) ≡ [] ∷ (first ∷ second ∷ []) ∷ (other ∷ []) ∷ [] ∷ []
lanes_by_datanode = refl

ends_in_end : EndsInEnd (Err Gone ∷ end ∷ [])
ends_in_end = (Err Gone ∷ [], refl)

ends_in_fault : EndsInFault (end ∷ Err Gone ∷ []) Gone
ends_in_fault = (end ∷ [], refl)

-- a closed lane of which all was taken and handed on
all_taken : (l : LaneId) → AllTaken (taking l (first ∷ []) 1 true ∷ []) (None ∷ [])
all_taken l = (refl, refl, refl, tt)

not_closed : (l : LaneId) → AllTaken (taking l (first ∷ []) 1 false ∷ []) (None ∷ []) → ⊥
not_closed l taken = both_ways _ refl taken.0

not_taken : (l : LaneId) → AllTaken (taking l (first ∷ []) 2 true ∷ []) (None ∷ []) → ⊥
not_taken l taken = let e : 1 ≡ 2 = taken.2 in omega (arith, e)

undelivered_still : (l : LaneId) → AllTaken (taking l (first ∷ []) 1 true ∷ []) (Some first ∷ []) → ⊥
undelivered_still l taken = let e : Some first ≡ None = taken.1 in absurd (cc)

causes_of_logs : map log_cause (Refused Missing ∷ Disorder ∷ []) ≡ refused Missing ∷ disorder ∷ []
causes_of_logs = refl

numbers_of_steps : map number_of_step (AlreadyActive ∷ Stopped (record { txid = 3; cause = Disorder }) ∷ BadLane ∷ LogNotEnded Gone ∷ OutOfMemory ∷ []) ≡ 53 ∷ 51 ∷ 56 ∷ 54 ∷ 55 ∷ []
numbers_of_steps = refl

numbers_of_promotions : map number_of_promotion (promotion.AlreadyActive ∷ promotion.IntakeOpen ∷ promotion.Step OutOfMemory ∷ []) ≡ 53 ∷ 52 ∷ 55 ∷ []
numbers_of_promotions = refl

-- ---- What is refused first.

-- a standby with these lanes, neither stopped nor active
abbrev serving : Standby → List LaneEnd → Standby
serving x ends = record x { shadow = record x.shadow { phase = record { stopped = None; active = false } }; ends = ends; stop = None; active = false }

abbrev stopped : Standby → Standby
stopped x = record x { stop = Some (record { txid = 3; cause = Disorder }) }

abbrev flushing : Standby → Standby
flushing x = record x { shadow = record x.shadow { phase = record { stopped = None; active = true } } }

no_such_datanode : (x : Standby) (l : LaneId) → let y = serving x (taking l [] 0 false ∷ []) in
    map (step_refusal y) (Edit ∷ Lane 0 ∷ Lane 1 ∷ Lane 2 ∷ []) ≡ None ∷ Some BadLane ∷ None ∷ Some BadLane ∷ []
no_such_datanode x l = refl

stop_before_no_datanode : (x : Standby) → map (step_refusal (stopped (serving x []))) (Edit ∷ Lane 1 ∷ []) ≡ Some (Stopped (record { txid = 3; cause = Disorder })) ∷ Some (Stopped (record { txid = 3; cause = Disorder })) ∷ []
stop_before_no_datanode x = refl

active_before_all : (x : Standby) → step_refusal (flushing (stopped (serving x []))) (Lane 1) ≡ Some AlreadyActive
active_before_all x = refl

open_lane : (x : Standby) (l : LaneId) → map (λ closed. promote_refusal (serving x (taking l [] 0 true ∷ taking l [] 0 closed ∷ []))) (false ∷ true ∷ []) ≡ Some promotion.IntakeOpen ∷ None ∷ []
open_lane x l = refl

stop_before_open_lane : (x : Standby) (l : LaneId)
    → promote_refusal (stopped (serving x (taking l [] 0 false ∷ []))) ≡ Some (promotion.Step (Stopped (record { txid = 3; cause = Disorder })))
stop_before_open_lane x l = refl

promoted_before_stop : (x : Standby) → promote_refusal (record (stopped x) { active = true }) ≡ Some promotion.AlreadyActive
promoted_before_stop x = refl

-- the flush ran out of memory: it may be asked for again
flush_again : (x : Standby) (l : LaneId) → promote_refusal (flushing (serving x (taking l [] 0 false ∷ []))) ≡ None
flush_again x l = refl

-- ---- Lanes that are closed.

abbrev closed_with : LaneId → ℕ → LaneEnd
closed_with l seen = record { lane = l; got = first ∷ []; seen = seen; loads = 3; closed = true }

-- the close counts a message that was sent since the end last looked; a second close counts none
closes : (l : LaneId) → CloseEnds (record (closed_with l 1) { closed = false } ∷ closed_with l 1 ∷ []) (closed_with l 2 ∷ closed_with l 1 ∷ [])
closes l = ((refl, refl, refl, omega arith, (λ q. absurd (both_ways _ refl q)), refl), ((refl, refl, refl, omega arith, (λ q. refl), refl), tt))

not_left_open : (l : LaneId) → ClosesEnd (taking l [] 0 false) (taking l [] 0 false) → ⊥
not_left_open l h = both_ways _ refl h.2

not_counted_twice : (l : LaneId) → ClosesEnd (closed_with l 1) (closed_with l 2) → ⊥
not_counted_twice l h = let e : 2 ≡ 1 = h.4 refl in omega (arith, e)

not_taken_at_a_close : (l : LaneId) → ClosesEnd (taking l [] 1 false) (record (closed_with l 1) { loads = 0 }) → ⊥
not_taken_at_a_close l h = let e : first ∷ [] ≡ [] = h.1 in let n : 1 ≡ 0 = ap length e in omega (arith, n)

not_fewer_than_taken : (l : LaneId) → ClosesEnd (record (closed_with l 1) { closed = false }) (closed_with l 0) → ⊥
not_fewer_than_taken l h = let few : 1 ≤ 0 = h.3 in omega (arith, few)

-- Empty comes of a take
looked : (x : Standby) (l : LaneId) → LookedOnce (serving x (taking l [] 0 false ∷ [])) 0 (serving x (record (taking l [] 0 false) { loads = 1 } ∷ []))
looked x l d = refl

not_without_a_look : (x : Standby) (l : LaneId) → let y = serving x (taking l [] 0 false ∷ []) in LaneMoves y 0 y (Ok (Empty 0)) → ⊥
not_without_a_look x l h = let e : 0 ≡ 1 = h.4 (taking l [] 0 false) in omega (arith, e)

-- Handed comes of a message
not_without_a_message : (x : Standby) (l : LaneId) → let y = record (serving x (taking l [] 0 false ∷ [])) { undelivered = None ∷ [] } in LaneMoves y 0 y (Ok (Handed 1 0)) → ⊥
not_without_a_message x l h = let e : 0 ≡ 1 = ap (λ ts. length (slice_index_or ts 0 [])) h.lanes in omega (arith, e)
