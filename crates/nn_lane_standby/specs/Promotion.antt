-- What a promotion does.
use Rattle.std.specs.Prelude.{◌≡◌, ℕ, true, false, List, [], ◌++◌, map, count_by, None, Result, Ok, Err, MatchResult}
use Rattle.std.specs.List.{list_all}
use Rattle.nn_model.specs.Namespace.{Namespace}
use Rattle.nn_model.specs.History.{History, is_flush}
use Rattle.nn_model.specs.Items.{items}
use Rattle.nn_model.specs.Lawful.{IsWhole}
use Rattle.nn_model.specs.Picture.{ShowsPicture}
use Rattle.nn_model.specs.Stands.{Stands, tables_of}
use Rattle.nn_shadow.specs.Contents.{standby_of, KeepsSettings}
use Rattle.nn_lane.specs.Ends.{got_of}
use Rattle.nn_segment.specs.Source.{Answer, Asked}
use Rattle.nn_segment.specs.Walk.{log_in}
use Rattle.nn_segment.specs.LogEnd.{end_of_log, given_in}
use Rattle.nn_lane_standby.specs.declared.fault.StepFault.{StepFault}
use Rattle.nn_lane_standby.specs.declared.fault.StepFault.TheVariants as fault
use Rattle.nn_lane_standby.specs.declared.fault.PromoteFault.{PromoteFault}
use Rattle.nn_lane_standby.specs.declared.fault.PromoteFault.TheVariants as promote_fault
use Rattle.nn_lane_standby.specs.declared.standby.Active.{Active}
use Rattle.nn_lane_standby.specs.Tailing.{has_begun, Standby, standby_with_past, Carries, StandsAt, EndsInEnd, AllTaken, by_node}
use Rattle.nn_lane_standby.specs.LaneSteps.{SameEnds, is_closed_lane}
use Rattle.nn_lane_standby.specs.Reads.{WhyEnded, StopsFor}
use Rattle.nn_lane_standby.specs.Steps.{OnLogFault}

-- The promoted standby: it stands at the whole log of the segments given, which ended where it stands and stopped nowhere, and at
-- all that was taken of its lanes. Its history is whole, each lane is closed and drained, and the last answer of a source was End
pub record Promoted (start : Namespace) (base : ℕ) (given : List Answer) (x : Standby) : Type 0 where
  pub stands : Stands start base (log_in base given) (by_node (map got_of x.ends)) (standby_of x.shadow)
  pub whole : IsWhole start (log_in base given) (items (by_node (map got_of x.ends))) x.shadow.history
  pub picture : ShowsPicture x.shadow.namespace (items (by_node (map got_of x.ends))) (tables_of (standby_of x.shadow))
  pub none_held : x.shadow.held ≡ []
  pub ended : EndsInEnd given
  pub log_end : end_of_log base start (given_in given) ≡ Ok (record { last = x.shadow.last; namespace = x.shadow.namespace })
  pub taken : AllTaken x.ends x.undelivered

-- the final flush, from a standby that has read the log and drained its lanes
abbrev pub Finishes : Standby → Standby → Result Active PromoteFault → Type 0
Finishes old new (Ok a) =
    (new.active ≡ true) × (a.last ≡ new.shadow.last) × (a.flushed ≡ count_by is_flush new.shadow.history) × (new.ends ≡ old.ends)
    × ((past : History) (start : Namespace) (base : ℕ) (given : List Answer) → StandsAt start base given (standby_with_past past old) → old.rest ≡ [] → EndsInEnd given → AllTaken old.ends old.undelivered → Promoted start base given (standby_with_past past new) × StandsAt start base given (standby_with_past past new))
    × KeepsSettings old.shadow new.shadow
Finishes old new (Err (promote_fault.Step fault.OutOfMemory)) =
    (new.active ≡ old.active) × (new.stop ≡ None) × (new.ends ≡ old.ends)
    × ((past : History) (start : Namespace) (base : ℕ) (given : List Answer) → StandsAt start base given (standby_with_past past old) → old.rest ≡ [] → EndsInEnd given → AllTaken old.ends old.undelivered → StandsAt start base given (standby_with_past past new))
    × KeepsSettings old.shadow new.shadow
Finishes old new (Err (promote_fault.Step fault.AlreadyActive)) = ⊥
Finishes old new (Err (promote_fault.Step (fault.Stopped s))) = ⊥
Finishes old new (Err (promote_fault.Step fault.BadLane)) = ⊥
Finishes old new (Err (promote_fault.Step (fault.LogNotEnded f))) = ⊥
Finishes old new (Err promote_fault.AlreadyActive) = ⊥
Finishes old new (Err promote_fault.IntakeOpen) = ⊥

-- the log was read to its end, and the lanes are drained
abbrev pub Prepares : Standby → List Answer → Standby → Result (Unit {0}) StepFault → Type 0
Prepares old answers new result =
    Carries old answers new × SameEnds old.ends new.ends × (has_begun new ≡ has_begun old) × (new.active ≡ old.active)
    × MatchResult result (λ _. (new.stop ≡ None) × (new.rest ≡ []) × EndsInEnd answers × AllTaken new.ends new.undelivered) (WhyEnded answers new)
    × KeepsSettings old.shadow new.shadow

-- where the answer is the fault of the source
abbrev pub OnPromoteLogFault : Result Active PromoteFault → Type 0 → Type 0
OnPromoteLogFault (Ok a) P = Unit {0}
OnPromoteLogFault (Err promote_fault.AlreadyActive) P = Unit {0}
OnPromoteLogFault (Err promote_fault.IntakeOpen) P = Unit {0}
OnPromoteLogFault (Err (promote_fault.Step f)) P = OnLogFault {A = Unit {0}} (Err f) P

-- wherever it stood, after whatever was taken from its history, it is promoted there, with these answers more
abbrev pub IsPromoted : Standby → List Answer → Standby → Type 0
IsPromoted old answers new = (past : History) (start : Namespace) (base : ℕ) (given : List Answer) → StandsAt start base given (standby_with_past past old) → Promoted start base (given ++ answers) (standby_with_past past new)

abbrev pub NotPromoted : Standby → List Answer → Standby → PromoteFault → Type 0
NotPromoted old answers new promote_fault.AlreadyActive = (old.active ≡ true) × (has_begun old ≡ true) × (new ≡ old) × (answers ≡ [])
NotPromoted old answers new promote_fault.IntakeOpen = (list_all is_closed_lane old.ends ≡ false) × (new ≡ old) × (answers ≡ [])
NotPromoted old answers new (promote_fault.Step f) = (new.active ≡ old.active) × WhyEnded answers new f × StopsFor old answers f

module _ {S : Type 0} (gives : S → Answer → S → Type 0) where
  -- it is promoted with these answers more, and read up to End where the flush had not begun before; or it says why not
  abbrev pub Promotes : S → Standby → S → Standby → Result Active PromoteFault → Type 0
  Promotes s old t new result =
      (answers : List Answer) × Asked gives s answers t × Carries old answers new × SameEnds old.ends new.ends
      × MatchResult result (λ a. (new.active ≡ true) × (a.last ≡ new.shadow.last) × (a.flushed ≡ count_by is_flush new.shadow.history) × IsPromoted old answers new × (has_begun old ≡ false → EndsInEnd answers)) (NotPromoted old answers new)
      × KeepsSettings old.shadow new.shadow
