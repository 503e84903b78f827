-- Reports in memory, DataNode by DataNode, and what a drive over them may end with.
use Rattle.std.specs.Prelude.{◌≡◌, ◌≤◌, ℕ, ◌+◌, ◌-◌, ◌^◌, List, [], ◌∷◌, ◌++◌, length, Option, Some, None, slice_index_or, slice_set}
use Rattle.nn_types.specs.declared.report.Message.{Message}
use Rattle.nn_types.specs.declared.report.Report.{Report}
use Rattle.nn_drive.specs.Reports.{sent_after}
use Rattle.nn_drive.specs.declared.driving.DriveFault.{DriveFault}
use Rattle.nn_drive.specs.declared.driving.DriveFault.TheVariants as drive
use Rattle.nn_model.specs.Lanes.{Lanes}
use Rattle.nn_scenario.specs.declared.steps.Step.{Step}
use Rattle.nn_scenario.specs.declared.steps.Step.TheVariants as step
use Rattle.nn_lane.specs.Ends.{LaneEnd}
use Rattle.nn_lane_standby.specs.Tailing.{Standby, StandsAt, log_cause}
use Rattle.nn_run.specs.Output.{Printed, log_fault}
use Rattle.nn_run.specs.Start.{Start}

-- a source in memory gives its reports in order, and then none
abbrev pub GivesReport : List Report → Option Report → List Report → Type 0
GivesReport [] answer new = (answer ≡ None) × (new ≡ [])
GivesReport (r ∷ reports) answer new = (answer ≡ Some r) × (new ≡ reports)

-- the message without its number
abbrev pub report_of : Message → Report
report_of m = record { dn = m.dn; block = m.block; stamp = m.stamp; len = m.len; kind = m.kind }

-- the reports of the DataNodes, DataNode 1 first, and a step more
abbrev pub with_step : List (List Report) → Step → List (List Report)
with_step sources step.Edit = sources
with_step sources (step.Message m) = slice_set sources (m.dn - 1) (slice_index_or sources (m.dn - 1) [] ++ report_of m ∷ [])

-- none has more reports than a lane carries
abbrev pub AreFew : List (List Report) → Type 0
AreFew sources = (i : ℕ) → length (slice_index_or sources i []) ≤ 2 ^ 62

-- so many DataNodes have these reports in memory: sent one after another, they are the lanes
pub record AreInMemory (count : ℕ) (lanes : Lanes) (sources : List (List Report)) : Type 0 where
  pub size : length sources ≡ count
  pub each : (i : ℕ) → sent_after (i + 1) [] (slice_index_or sources i []) ≡ lanes (i + 1)
  pub none : lanes 0 ≡ []
  pub few : AreFew sources

-- ---- For private clauses.

-- a standby with no messages over a start, before its first step
pub record IsBegun (start : Start) (own : List LaneEnd) (x : Standby) : Type 0 where
  pub ends : x.ends ≡ own
  pub stands : StandsAt start.namespace start.txid [] x

-- a standby that is new and a source that never fails meet no other fault
abbrev pub MayEnd : DriveFault → Type 0
MayEnd drive.AlreadyActive = ⊥
MayEnd (drive.Stopped s) = Unit {0}
MayEnd (drive.LogNotEnded f) = ⊥
MayEnd drive.OutOfMemory = Unit {0}

-- what is printed of the stop
abbrev pub TellsStop : DriveFault → Printed → Type 0
TellsStop drive.AlreadyActive p = ⊥
TellsStop (drive.Stopped s) p = p ≡ log_fault (record { cause = log_cause s.cause; txid = s.txid })
TellsStop (drive.LogNotEnded f) p = ⊥
TellsStop drive.OutOfMemory p = ⊥
