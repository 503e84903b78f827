-- What the source of a feed answered where the end of the feed got so much, and what a run over that end came to.
use Rattle.nn_model.specs.History.{History, is_flush}
use Rattle.nn_model.specs.Namespace.{Namespace}
use Rattle.nn_lane_standby.specs.declared.standby.Active.{Active}
use Rattle.std.specs.Prelude.{◌≡◌, ℕ, ◌<◌, ◌≤◌, ◌⊎◌, Bool, true, Option, List, [], ◌++◌, count_by}
use Rattle.nn_types.specs.declared.report.Report.{Report}
use Rattle.nn_lane.specs.Ends.{Reporter, LaneEnd}
use Rattle.nn_segment.specs.Segment.{Segment}
use Rattle.nn_segment.specs.Source.{Answer, Asked}
use Rattle.nn_segment.specs.declared.fault.SourceFault.{SourceFault}
use Rattle.nn_shadow.specs.Contents.{Shadow, KeepsSettings}
use Rattle.nn_lane_standby.specs.Shadows.{shadow_with_past}
use Rattle.nn_lane_standby.specs.Reads.{EndsInFault}
use Rattle.nn_lane_standby.specs.Tailing.{Standby, standby_with_past, StandsAt, LogStops, EndsInEnd}
use Rattle.nn_feed.specs.declared.ends.FeedEnd.{FeedEnd}
use Rattle.nn_feed.specs.declared.rule.Placed.{Placed}
use Rattle.nn_feed.specs.Ends.{got_by, GivesWhatIsFed}
use Rattle.nn_feed.specs.Feeds.{has_last, answers_of}
use Rattle.nn_feed.specs.Running.{then_last}
use Rattle.nn_drive.specs.Driven.{IsPromotedAtEnd}
use Rattle.nn_drive.specs.declared.driving.DriveFault.{DriveFault}
use Rattle.nn_drive.specs.declared.driving.DriveFault.TheVariants as drive

-- how often the end of a feed failed
abbrev pub failures_of : {R : Type 0} → FeedEnd R → ℕ
failures_of e = e.failures

-- more was got, and nothing behind a last answer
abbrev pub GotMore : List Placed → List Placed → Type 0
GotMore old new = (more : List Placed) × (new ≡ old ++ more) × (has_last old ≡ true → more ≡ [])

module _ {T : Type 0} (gives : T → Answer → T → Type 0) (failures : T → ℕ) where
  -- The source went from s to t. It answered all that was got, in order, and then more: segments, and a last answer with nothing behind it.
  -- Where its last answer is a fault it has failed more often than before
  pub record Sourced (s : T) (got : List Placed) (t : T) : Type 0 where
    pub more : List Answer
    pub asked : Asked gives s (answers_of got ++ more) t
    pub segments : List Segment
    pub last : Answer
    pub are : answers_of got ++ more ≡ then_last segments last
    pub whole : has_last got ≡ true → more ≡ []
    pub failed : (f : SourceFault) → EndsInFault (answers_of got ++ more) f → failures s < failures t

  -- the thread of its feeder has ended; where the two ends of the feed met, this is what it answered
  abbrev pub HasAnswered : T → List Placed → Bool → Type 0
  HasAnswered s got met = (t : T) × ((answers : List Answer) × Asked gives s answers t) × (failures s ≤ failures t) × (met ≡ true → Sourced s got t)

-- the fault that was met; or 55 for one of the log that the feed did not tell as its source's
abbrev pub IsKnown : DriveFault → Bool → DriveFault → Type 0
IsKnown fault told answer = (answer ≡ drive.OutOfMemory) ⊎ ((answer ≡ fault) × ((f : SourceFault) → fault ≡ drive.LogNotEnded f → told ≡ true))

-- what a fault says of the standby before, and of what the feed answered since
abbrev pub WhyFailed : Standby → List Answer → DriveFault → Type 0
WhyFailed old answers drive.AlreadyActive = ⊥
WhyFailed old answers (drive.Stopped m) = LogStops old answers m
WhyFailed old answers (drive.LogNotEnded f) = EndsInFault answers f
WhyFailed old answers drive.OutOfMemory = Unit {0}

-- a run over the end of a feed failed, which went from there to here: with the answers up to a point between, behind which more was got
pub record FailsOver {R : Type 0} (old : Standby) (end : FeedEnd R) (after : FeedEnd R) (fault : DriveFault) : Type 0 where
  pub answers : List Answer
  pub between : FeedEnd R
  pub asked : Asked GivesWhatIsFed end answers between
  pub why : WhyFailed old answers fault
  pub told : (f : SourceFault) → fault ≡ drive.LogNotEnded f → has_last (got_by between) ≡ true
  pub more : GotMore (got_by between) (got_by after)

-- a run over the end of a feed promoted its standby, as a drive does over its source
pub record IsDrivenOver {R S : Type 0} (gives : S → Option Report → S → Type 0) (old : Standby) (end : FeedEnd R) (workers : List (S × Reporter)) (after : FeedEnd R) (x : Shadow) (active : Active) : Type 0 where
  pub answers : List Answer
  pub asked : Asked GivesWhatIsFed end answers after
  pub ended : EndsInEnd answers
  pub last : active.last ≡ x.last
  pub flushed : active.flushed ≡ count_by is_flush x.history
  pub settings : KeepsSettings old.shadow x
  pub ends : List LaneEnd
  pub promoted : (past : History) (start : Namespace) (base : ℕ) (given : List Answer) → StandsAt start base given (standby_with_past past old) → IsPromotedAtEnd gives start base (given ++ answers) workers old.ends ends (shadow_with_past past x)
