-- What threads of DataNodes promise, and what a drive comes to.
use Rattle.nn_model.specs.History.{History, is_flush}
use Rattle.nn_model.specs.Items.{items}
use Rattle.nn_lane_standby.specs.declared.standby.Active.{Active}
use Rattle.std.specs.Prelude.{◌≡◌, ℕ, ◌<◌, ◌≤◌, Bool, true, false, Option, Result, List, [], ◌∷◌, ◌++◌, length, map, slice_index_or, count_by, Ok, Err}
use Rattle.std.specs.declared.thread.PromisedHandle.{PromisedHandle}
use Rattle.nn_types.specs.declared.report.Report.{Report}
use Rattle.nn_types.specs.declared.report.Message.{Message}
use Rattle.nn_model.specs.Namespace.{Namespace}
use Rattle.nn_model.specs.Lawful.{IsWhole}
use Rattle.nn_model.specs.Picture.{ShowsPicture}
use Rattle.nn_model.specs.Stands.{Stands, tables_of}
use Rattle.nn_shadow.specs.Contents.{Shadow, standby_of, KeepsSettings}
use Rattle.nn_lane_standby.specs.Shadows.{shadow_with_past}
use Rattle.nn_segment.specs.Segment.{Segment}
use Rattle.nn_segment.specs.Source.{Answer, Asked, given, end}
use Rattle.nn_segment.specs.Walk.{log_in}
use Rattle.nn_segment.specs.LogEnd.{end_of_log, given_in}
use Rattle.nn_lane_standby.specs.Promotion.{IsPromoted as Promotes}
use Rattle.nn_lane_standby.specs.Reads.{EndsInFault}
use Rattle.nn_drive.specs.declared.driving.DriveFault.{DriveFault}
use Rattle.nn_drive.specs.declared.driving.DriveFault.TheVariants as drive
use Rattle.nn_lane.specs.Ends.{Reporter, LaneEnd, got_of, known_count, StartsWith}
use Rattle.nn_lane.specs.declared.fault.Refusal.{Refusal}
use Rattle.nn_lane.specs.declared.fault.Refusal.TheVariants.{Closed, Exhausted, Full}
use Rattle.nn_lane_standby.specs.Tailing.{has_begun, Standby, standby_with_past, StandsAt, Carries, LogStops, EndsInEnd, by_node}
use Rattle.nn_lane_standby.specs.LaneSteps.{SameEnds}
use Rattle.nn_drive.specs.declared.driving.WorkerExit.{WorkerExit}
use Rattle.nn_drive.specs.declared.driving.WorkerPromise.{WorkerPromise}
use Rattle.nn_drive.specs.Reports.{Reported}

-- the two ends of one lane
abbrev pub IsLane : Reporter → LaneEnd → Type 0
IsLane r e = e.lane ≡ r.lane

-- worker i has the reporter of lane i
abbrev pub HaveReporters : {S : Type 0} → List (S × Reporter) → List LaneEnd → Type 0
HaveReporters {S} workers ends =
    (length ends ≡ length workers) × ((i : ℕ) (w : S × Reporter) (e : LaneEnd) → i < length workers → IsLane (slice_index_or workers i w).1 (slice_index_or ends i e))

-- its last report was refused, since the lane is closed
abbrev pub IsTold : Result ℕ Refusal → Type 0
IsTold (Ok _) = ⊥
IsTold (Err (Closed m n)) = Unit {0}
IsTold (Err (Exhausted m)) = ⊥
IsTold (Err (Full m n)) = ⊥

-- if it was told that the lane is closed, the lane was closed before
abbrev pub IsToldOnly : {S : Type 0} → WorkerExit S → LaneEnd → Type 0
IsToldOnly w before = IsTold w.outcome → before.closed ≡ true

module _ {S : Type 0} (gives : S → Option Report → S → Type 0) where
  abbrev pub HasReported : S → Reporter → WorkerExit S → Type 0
  HasReported s r w = (w.reporter.lane ≡ r.lane) × Reported gives s r w.source w.reporter w.outcome

  -- all that its DataNode had sent and that its source gave was taken; of a lane that was closed before, up to a report that was refused
  abbrev pub IsLaneTaken : S → Reporter → LaneEnd → List Message → Type 0
  IsLaneTaken s r before got = (w : WorkerExit S) × HasReported s r w × (got ≡ w.reporter.sent) × IsToldOnly w before

-- the handle of the thread that has this worker
abbrev pub IsPromised : {S : Type 0} → S × Reporter → PromisedHandle (WorkerExit S) (WorkerPromise S) → Type 0
IsPromised w h = (h.promise.0.value ≡ w.0) × (h.promise.1.value ≡ w.1)

-- the handles are of the first workers' threads, in order
abbrev pub ArePromised : {S : Type 0} → List (S × Reporter) → List (PromisedHandle (WorkerExit S) (WorkerPromise S)) → Type 0
ArePromised {S} workers handles =
    (length handles ≤ length workers)
    × ((i : ℕ) (w : S × Reporter) (h : PromisedHandle (WorkerExit S) (WorkerPromise S)) → i < length handles → IsPromised (slice_index_or workers i w) (slice_index_or handles i h))

-- the standby went on, and its lanes are the same
pub record Goes (old : Standby) (answers : List Answer) (new : Standby) : Type 0 where
  pub carries : Carries old answers new
  pub same_ends : SameEnds old.ends new.ends
  pub begun : has_begun new ≡ has_begun old
  pub active : new.active ≡ old.active
  pub settings : KeepsSettings old.shadow new.shadow

abbrev pub Went : {T : Type 0} → (T → Answer → T → Type 0) → (T → ℕ) → T → Standby → T → Standby → Type 0
Went gives failures s old t new = (answers : List Answer) × Asked gives s answers t × Goes old answers new × (failures s ≤ failures t)

-- What a fault says of the standby before, and of what its source answered since. With 53 the flush had begun, and the source was not
-- asked. With 51 the log stops: all that was given before, and these answers. With 54 the source's fault is its last answer, and it has
-- failed more often than before. With 55 memory was refused, or a thread
abbrev pub EndsEarly : {T : Type 0} → (T → ℕ) → T → Standby → List Answer → T → DriveFault → Type 0
EndsEarly failures s old answers t drive.AlreadyActive = (has_begun old ≡ true) × (answers ≡ [])
EndsEarly failures s old answers t (drive.Stopped m) = LogStops old answers m
EndsEarly failures s old answers t (drive.LogNotEnded f) = EndsInFault answers f × (failures s < failures t)
EndsEarly failures s old answers t drive.OutOfMemory = Unit {0}

-- the standby went on up to a fault
abbrev pub WentUntil : {T : Type 0} → (T → Answer → T → Type 0) → (T → ℕ) → T → Standby → T → DriveFault → Type 0
WentUntil gives failures s old t fault = (answers : List Answer) × Asked gives s answers t × EndsEarly failures s old answers t fault × (failures s ≤ failures t)

-- a promotion that failed left its lanes as they were, and the standby not promoted; its flush may have begun
pub record Stays (old : Standby) (answers : List Answer) (new : Standby) : Type 0 where
  pub carries : Carries old answers new
  pub same_ends : SameEnds old.ends new.ends
  pub active : new.active ≡ old.active
  pub settings : KeepsSettings old.shadow new.shadow

abbrev pub Stayed : {T : Type 0} → (T → Answer → T → Type 0) → T → Standby → T → Standby → Type 0
Stayed gives s old t new = (answers : List Answer) × Asked gives s answers t × Stays old answers new

-- the standby was promoted with these answers more, the last of which is End
abbrev pub PromotesAtEnd : {T : Type 0} → (T → Answer → T → Type 0) → (T → ℕ) → T → Standby → T → Active → Standby → Type 0
PromotesAtEnd gives failures s old t active new =
    (answers : List Answer) × Asked gives s answers t × SameEnds old.ends new.ends
    × ((active.last ≡ new.shadow.last) × (active.flushed ≡ count_by is_flush new.shadow.history))
    × Promotes old answers new × (failures s ≤ failures t) × KeepsSettings old.shadow new.shadow × EndsInEnd answers

-- what the thread at this handle gave back
abbrev pub IsJoined : {S : Type 0} → (S → Option Report → S → Type 0) → Bool → PromisedHandle (WorkerExit S) (WorkerPromise S) → LaneEnd → Reporter → Type 0
IsJoined {S} gives told h e r = (w : WorkerExit S) × HasReported gives h.promise.0.value h.promise.1.value w × (r ≡ w.reporter) × (told ≡ false → IsToldOnly w e)

-- a reporter was told of a close of an open lane
pub record ToldOne (ends : List LaneEnd) (reporters : List Reporter) : Type 0 where
  pub place : ℕ
  pub within : place < length reporters
  pub told : (r : Reporter) → (slice_index_or reporters place r).told ≡ true
  pub is_open : (e : LaneEnd) → (slice_index_or ends place e).closed ≡ false

-- the reporter of each handle's thread, in order, and whether one was told of a close of an open lane
pub record JoinsAll {S : Type 0} (gives : S → Option Report → S → Type 0) (handles : List (PromisedHandle (WorkerExit S) (WorkerPromise S))) (ends : List LaneEnd) (reporters : List Reporter) (told : Bool) : Type 0 where
  pub size : length reporters ≡ length handles
  pub each : (i : ℕ) (h : PromisedHandle (WorkerExit S) (WorkerPromise S)) (e : LaneEnd) (r : Reporter) → i < length handles
      → IsJoined gives told (slice_index_or handles i h) (slice_index_or ends i e) (slice_index_or reporters i r)
  pub one : told ≡ true → ToldOne ends reporters

-- what the meeting of the two ends of a lane says: what was taken is a prefix of what was sent, a close counted all of that, and only
-- the reporter of a closed lane was told of a close
abbrev pub EndsAgree : LaneEnd → Reporter → Type 0
EndsAgree e r = StartsWith r.sent (got_of e) × (e.closed ≡ true → known_count e ≡ length r.sent) × (r.told ≡ true → e.closed ≡ true)

abbrev pub AreOneLane : LaneEnd → Reporter → Type 0
AreOneLane e r = IsLane r e

-- The standby is promoted: wherever it stood before, it stands at the log with all that the source gave in the call, up to End, and
-- at its lanes. That log ended there and stopped nowhere. Its history is whole, and its tables are the picture. Of each lane it took what its Reporter had sent and
-- all that its source gave; of one that was closed before, up to a report that was refused
pub record IsPromotedAtEnd {S : Type 0} (gives : S → Option Report → S → Type 0) (start : Namespace) (base : ℕ) (given : List Answer) (workers : List (S × Reporter)) (before ends : List LaneEnd) (x : Shadow) : Type 0 where
  pub stands : Stands start base (log_in base given) (by_node (map got_of ends)) (standby_of x)
  pub whole : IsWhole start (log_in base given) (items (by_node (map got_of ends))) x.history
  pub picture : ShowsPicture x.namespace (items (by_node (map got_of ends))) (tables_of (standby_of x))
  pub none_held : x.held ≡ []
  pub ended : EndsInEnd given
  pub log_end : end_of_log base start (given_in given) ≡ Ok (record { last = x.last; namespace = x.namespace })
  pub lanes : length ends ≡ length workers
  pub taken : (i : ℕ) (w : S × Reporter) (b e : LaneEnd) → i < length workers
      → IsLaneTaken gives (slice_index_or workers i w).0 (slice_index_or workers i w).1 (slice_index_or before i b) (slice_index_or ends i e).got

-- why it ended early, with what its source had given by then
abbrev pub NotDriven : {T : Type 0} → (T → Answer → T → Type 0) → (T → ℕ) → Standby → T → DriveFault → Type 0
NotDriven {T} asks failures old source fault = (after : T) × WentUntil asks failures source old after fault

module _ {T S : Type 0} (asks : T → Answer → T → Type 0) (failures : T → ℕ) (gives : S → Option Report → S → Type 0) where
  -- The source gave segments and then End, and was not asked again. The standby is promoted there
  abbrev pub IsDriven : Standby → T → List (S × Reporter) → Shadow → Active → Type 0
  IsDriven old source workers x active =
      (answers : List Answer) × (after : T) × (ends : List LaneEnd) × Asked asks source answers after × (failures source ≤ failures after)
      × (active.last ≡ x.last) × (active.flushed ≡ count_by is_flush x.history) × KeepsSettings old.shadow x
      × ((past : History) (start : Namespace) (base : ℕ) (given : List Answer) → StandsAt start base given (standby_with_past past old) → IsPromotedAtEnd gives start base (given ++ answers) workers old.ends ends (shadow_with_past past x))
      × ((segments : List Segment) × (answers ≡ map given segments ++ end ∷ []))
