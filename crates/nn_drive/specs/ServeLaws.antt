-- What a worker that is joined says of its lane, as a statement; the function of the crate proves it.
use Rattle.std.specs.Prelude.{◌≡◌, ℕ, ◌<◌, Option, List, length, slice_index_or}
use Rattle.nn_types.specs.declared.report.Report.{Report}
use Rattle.nn_lane.specs.Ends.{Reporter}
use Rattle.nn_model.specs.History.{History}
use Rattle.nn_model.specs.Namespace.{Namespace}
use Rattle.nn_segment.specs.Source.{Answer}
use Rattle.nn_lane_standby.specs.Tailing.{Standby, standby_with_past, StandsAt}
use Rattle.nn_drive.specs.Driven.{HasReported}
use Rattle.nn_drive.specs.Served.{HasLeft, IsServed}
use Rattle.nn_drive.specs.declared.driving.WorkerExit.{WorkerExit}
use Rattle.nn_drive.specs.declared.operator.Request.{Request}
use Rattle.nn_drive.specs.declared.serving.Left.{Left}
use Rattle.nn_drive.specs.declared.serving.Running.{Running}
use Rattle.nn_drive.specs.declared.serving.Served.{Served}

-- What was taken of the lane is just what the worker's reporter was answered Ok to: what its source gave, in order, up to None or to a report that was refused
pub record WasAllTaken {S : Type 0} (gives : S → Option Report → S → Type 0) (worker : S × Reporter) (r : Running S) (l : Left S) : Type 0 where
  pub worked : WorkerExit S
  pub reported : HasReported gives worker.0 worker.1 worked
  pub taken : r.end.got ≡ worked.reporter.sent
  pub source : l.source ≡ worked.source
  pub outcome : l.outcome ≡ worked.outcome
  pub accepted : l.met.accepted ≡ length worked.reporter.sent

-- so it is of each worker of a promoted standby, which stood somewhere, once the worker is joined
abbrev pub TakesAllOfTheJoined : {O T S : Type 0} → (O → Standby → ℕ → Request → O → Type 0) → (T → Answer → T → Type 0) → (T → ℕ) → (S → Option Report → S → Type 0) → Type 0
TakesAllOfTheJoined {O} {T} {S} asks gives failures reports =
    (past : History) (start : Namespace) (base : ℕ) (given : List Answer) (old : Standby) (source : T) (workers : List (S × Reporter)) (o p : O) (served : Served S)
    → StandsAt start base given (standby_with_past past old) → IsServed asks gives failures old source workers o p served
    → (i : ℕ) (w : S × Reporter) (r : Running S) (l : Left S) → i < length workers → HasLeft reports (slice_index_or served.workers.items i r) l
    → WasAllTaken reports (slice_index_or workers i w) (slice_index_or served.workers.items i r) l
