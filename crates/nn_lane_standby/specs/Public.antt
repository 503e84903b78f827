-- What a public step does.
use Rattle.std.specs.Prelude.{◌≡◌, ◌≢◌, ℕ, ◌+◌, ◌<◌, true, false, List, [], ◌∷◌, length, Some, None, Result, Ok, Err, MatchResult, ◌⊎◌}
use Rattle.nn_lane.specs.Ends.{LaneEnd, node_of}
use Rattle.nn_model.specs.Namespace.{root_alone}
use Rattle.nn_segment.specs.Source.{Answer, Asked}
use Rattle.nn_shadow.specs.Contents.{KeepsSettings}
use Rattle.nn_lane_standby.specs.declared.standby.Choice.{Choice}
use Rattle.nn_lane_standby.specs.declared.standby.Choice.TheVariants.{Edit, Lane}
use Rattle.nn_lane_standby.specs.declared.standby.Stepped.{Stepped}
use Rattle.nn_lane_standby.specs.declared.fault.StepFault.{StepFault}
use Rattle.nn_lane_standby.specs.declared.fault.StepFault.TheVariants as fault
use Rattle.nn_lane_standby.specs.Tailing.{has_begun, Standby, Carries, StandsAt, lane_at, undelivered_at}
use Rattle.nn_lane_standby.specs.Reads.{StopsWith, StopsFor}
use Rattle.nn_lane_standby.specs.Steps.{IsEdited, NotEdited}
use Rattle.nn_lane_standby.specs.LaneSteps.{SameEnds, LaneMoves}

-- the place of a DataNode's lane
abbrev pub IsPlace : Standby → ℕ → ℕ → Type 0
IsPlace x dn i = (dn ≡ i + 1) × (i < length x.ends)

abbrev pub HasNoPlace : Standby → ℕ → Type 0
HasNoPlace x dn = (dn ≡ 0) ⊎ (length x.ends < dn)

abbrev pub IsStepped : Standby → Choice → List Answer → Standby → Stepped → Type 0
IsStepped old Edit answers new x = IsEdited old answers new x
IsStepped old (Lane dn) answers new x = (answers ≡ []) × ((i : ℕ) × IsPlace old dn i × LaneMoves old i new (Ok x))

abbrev pub NotStepped : Standby → Choice → List Answer → Standby → StepFault → Type 0
NotStepped old choice answers new fault.AlreadyActive = (has_begun old ≡ true) × (new ≡ old) × (answers ≡ [])
NotStepped old choice answers new (fault.Stopped s) =
    (s.txid ≡ old.shadow.last + 1) × ((old.stop ≡ Some s) × (new ≡ old) × (answers ≡ [])) ⊎ ((choice ≡ Edit) × NotEdited old answers new (fault.Stopped s))
NotStepped old choice answers new fault.BadLane = (dn : ℕ) × (choice ≡ Lane dn) × HasNoPlace old dn × (new ≡ old) × (answers ≡ [])
NotStepped old choice answers new (fault.LogNotEnded f) = (choice ≡ Edit) × NotEdited old answers new (fault.LogNotEnded f)
NotStepped old choice answers new fault.OutOfMemory =
    ((choice ≡ Edit) × NotEdited old answers new fault.OutOfMemory) ⊎ ((dn : ℕ) × (i : ℕ) × (choice ≡ Lane dn) × (answers ≡ []) × IsPlace old dn i × LaneMoves old i new (Err fault.OutOfMemory))

-- the lane at this place is as it was: its end, and the message of it that is undelivered
abbrev pub SameLane : Standby → ℕ → Standby → Type 0
SameLane old k new = ((e : LaneEnd) → lane_at new k e ≡ lane_at old k e) × (undelivered_at new k ≡ undelivered_at old k)

-- what a step leaves: one of the log leaves all lanes, and one of a lane the other lanes, the segment in hand and the stop
abbrev pub Leaves : Standby → Choice → Standby → Type 0
Leaves old Edit new = (new.ends ≡ old.ends) × (new.undelivered ≡ old.undelivered)
Leaves old (Lane dn) new = (new.rest ≡ old.rest) × (new.stop ≡ old.stop) × ((k : ℕ) → dn ≢ k + 1 → SameLane old k new)

module _ {S : Type 0} (gives : S → Answer → S → Type 0) where
  abbrev pub StandbySteps : S → Standby → Choice → S → Standby → Result Stepped StepFault → Type 0
  StandbySteps s old choice t new result =
      (answers : List Answer) × Asked gives s answers t × Carries old answers new × SameEnds old.ends new.ends × (has_begun new ≡ has_begun old)
      × MatchResult result (IsStepped old choice answers new) (λ f. NotStepped old choice answers new f × StopsWith new f × StopsFor old answers f)
      × KeepsSettings old.shadow new.shadow × (new.active ≡ old.active) × Leaves old choice new

-- the ends are those of the first DataNodes, in order, and nothing was taken
abbrev pub AreNew : ℕ → List LaneEnd → Type 0
AreNew dn [] = Unit {0}
AreNew dn (e ∷ es) = (node_of e ≡ dn) × (e.got ≡ []) × AreNew (dn + 1) es

-- a standby with no log and no messages
abbrev pub IsNewStandby : List LaneEnd → Standby → Type 0
IsNewStandby ends x = (x.ends ≡ ends) × (has_begun x ≡ false) × (x.stop ≡ None) × (x.active ≡ false) × StandsAt root_alone 0 [] x
