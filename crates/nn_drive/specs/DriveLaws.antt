-- What two drives of one standby have in common, as a statement; the function of the crate proves it.
use Rattle.std.specs.Prelude.{◌≡◌, ℕ, false, Option, List, [], ◌∷◌}
use Rattle.nn_types.specs.declared.report.Report.{Report}
use Rattle.nn_model.specs.History.{History}
use Rattle.nn_model.specs.Namespace.{Namespace}
use Rattle.nn_model.specs.Counts.{safe_mode_of}
use Rattle.nn_lane.specs.Ends.{Reporter, LaneEnd}
use Rattle.nn_segment.specs.Source.{Answer}
use Rattle.nn_shadow.specs.Contents.{Shadow, standby_of}
use Rattle.nn_lane_standby.specs.declared.standby.Active.{Active}
use Rattle.nn_lane_standby.specs.Tailing.{Standby, standby_with_past, StandsAt}
use Rattle.nn_drive.specs.Driven.{HaveReporters, IsDriven}

-- a source answers by a function of its state: the same state gives the same answer, and the same state after it
abbrev pub AnswersByFunction : {S A : Type 0} → (S → A → S → Type 0) → Type 0
AnswersByFunction {S} {A} gives = (s t u : S) (a b : A) → gives s a t → gives s b u → (a ≡ b) × (t ≡ u)

-- no lane was closed
abbrev pub AreOpen : List LaneEnd → Type 0
AreOpen [] = Unit {0}
AreOpen (e ∷ es) = (e.closed ≡ false) × AreOpen es

-- Two promoted standbys show the same, except for their histories: these have the order of their own runs.
pub record EndsAlike (x y : Shadow) (a b : Active) : Type 0 where
  pub namespace : x.namespace ≡ y.namespace
  pub last : a.last ≡ b.last
  pub replicas : (dn id : ℕ) → (standby_of x).replica dn id ≡ (standby_of y).replica dn id
  pub orders : (dn id : ℕ) → (standby_of x).has_order dn id ≡ (standby_of y).has_order dn id
  -- the counts, and whether safe mode is on
  pub counts : safe_mode_of x.permille x.table.min x.namespace (standby_of x).replica ≡ safe_mode_of y.permille y.table.min y.namespace (standby_of y).replica

-- Two drives of the same standby, with the same sources, end alike, whatever their schedules: the standby stood somewhere, all its
-- lanes were open, the sources answer by functions, and both drives promoted it.
abbrev pub DrivesEndAlike : {T S : Type 0} → (T → Answer → T → Type 0) → (T → ℕ) → (S → Option Report → S → Type 0) → Type 0
DrivesEndAlike {T} {S} asks failures gives =
    AnswersByFunction asks → AnswersByFunction gives → (past : History) (start : Namespace) (base : ℕ) (given : List Answer) (old : Standby) (source : T) (workers : List (S × Reporter))
    → StandsAt start base given (standby_with_past past old) → HaveReporters workers old.ends → AreOpen old.ends → (x y : Shadow) (a b : Active)
    → IsDriven asks failures gives old source workers x a → IsDriven asks failures gives old source workers y b → EndsAlike x y a b
