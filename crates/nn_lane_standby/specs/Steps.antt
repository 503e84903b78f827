-- What a step does.
use Rattle.std.specs.Prelude.{◌≡◌, ◌≢◌, ◌+◌, ◌<◌, ◌≤◌, List, [], ◌∷◌, Some, None, Result, Ok, Err, MatchResult, ◌⊎◌}
use Rattle.nn_types.specs.declared.tx.Tx.{Tx}
use Rattle.nn_types.specs.declared.edit_fault.EditFault.{EditFault}
use Rattle.nn_model.specs.Apply.{refusal}
use Rattle.nn_shadow.specs.Contents.{standby_of, KeepsSettings}
use Rattle.nn_shadow.specs.Calls.{applied_to}
use Rattle.nn_shadow.specs.declared.fault.Stop.{Stop}
use Rattle.nn_shadow.specs.declared.fault.StopCause.TheVariants.{Refused, Disorder}
use Rattle.nn_segment.specs.Segment.{Segment, first_txid}
use Rattle.nn_segment.specs.Source.{Answer, Asked}
use Rattle.nn_model.specs.Log.{counted as news}
use Rattle.nn_segment.specs.declared.source.Item.TheVariants.{Segment as segment, End}
use Rattle.nn_segment.specs.declared.cursor.TakenUp.{TakenUp}
use Rattle.nn_segment.specs.declared.cursor.TakenUp.TheVariants as taken_up
use Rattle.nn_lane_standby.specs.declared.standby.Stepped.{Stepped}
use Rattle.nn_lane_standby.specs.declared.standby.Stepped.TheVariants as stepped
use Rattle.nn_lane_standby.specs.declared.fault.StepFault.{StepFault}
use Rattle.nn_lane_standby.specs.declared.fault.StepFault.TheVariants as fault
use Rattle.nn_lane_standby.specs.Tailing.{has_begun, Standby, Carries, with_rest, stopping}
use Rattle.nn_lane_standby.specs.Shadows.{ShowsSame}

-- The source was asked once, and this is what came of it: of a segment what counts is in hand; a segment that begins too high stops the
-- standby
abbrev pub OnceAsked : Standby → Answer → Standby → Result TakenUp StepFault → Type 0
OnceAsked old r new (Ok taken_up.End) = (r ≡ Ok End) × (new ≡ old)
OnceAsked old r new (Ok taken_up.Old) = (p : Segment) × (r ≡ Ok (segment p)) × (first_txid p.txs ≤ old.shadow.last + 1) × (news old.shadow.last p.txs ≡ []) × (new ≡ old)
OnceAsked old r new (Ok taken_up.New) = (p : Segment) × (r ≡ Ok (segment p)) × (first_txid p.txs ≤ old.shadow.last + 1) × (news old.shadow.last p.txs ≢ []) × (new ≡ with_rest old (news old.shadow.last p.txs))
OnceAsked old r new (Ok taken_up.Disorder) = ⊥
OnceAsked old r new (Err (fault.Stopped s)) =
    (p : Segment) × (r ≡ Ok (segment p)) × (old.shadow.last + 1 < first_txid p.txs) × (news old.shadow.last p.txs ≡ []) × (s.txid ≡ old.shadow.last + 1) × (s.cause ≡ Disorder) × (new ≡ stopping old s)
OnceAsked old r new (Err (fault.LogNotEnded f)) = (r ≡ Err f) × (new ≡ old)
OnceAsked old r new (Err fault.AlreadyActive) = ⊥
OnceAsked old r new (Err fault.BadLane) = ⊥
OnceAsked old r new (Err fault.OutOfMemory) = ⊥

-- the lanes and marks are as they were
pub record SameLanes (old new : Standby) : Type 0 where
  pub ends : new.ends ≡ old.ends
  pub undelivered : new.undelivered ≡ old.undelivered
  pub begun : has_begun new ≡ has_begun old
  pub active : new.active ≡ old.active
  pub settings : KeepsSettings old.shadow new.shadow

-- what is in hand after these answers
abbrev pub in_hand : Standby → List Answer → List Tx
in_hand old [] = old.rest
in_hand old (Ok (segment p) ∷ rs) = news old.shadow.last p.txs
in_hand old (Ok End ∷ rs) = []
in_hand old (Err f ∷ rs) = []

-- what an edit's step adds: a transaction, or nothing
abbrev pub IsEdited : Standby → List Answer → Standby → Stepped → Type 0
IsEdited old answers new (stepped.Applied txid) =
    (tx : Tx) × (in_hand old answers ≡ tx ∷ new.rest) × (txid ≡ tx.txid) × (txid ≡ old.shadow.last + 1) × (new.shadow.last ≡ txid) × (new.stop ≡ None)
    × (standby_of new.shadow ≡ applied_to (standby_of old.shadow) tx)
IsEdited old answers new stepped.Passed = (p : Segment) × (answers ≡ Ok (segment p) ∷ []) × (first_txid p.txs ≤ old.shadow.last + 1) × (news old.shadow.last p.txs ≡ []) × (new ≡ old)
IsEdited old answers new stepped.LogEnded = (answers ≡ Ok End ∷ []) × (old.rest ≡ []) × (new ≡ old)
IsEdited old answers new (stepped.Handed processed held) = ⊥
IsEdited old answers new (stepped.Empty accepted) = ⊥

-- why the standby stops: the next edit is refused, or the segment begins too high
abbrev pub IsCause : Standby → List Answer → Stop → Type 0
IsCause old answers s =
    ((tx : Tx) × (rest : List Tx) × (f : EditFault) × (in_hand old answers ≡ tx ∷ rest) × (refusal old.shadow.namespace tx.edit ≡ Some f) × (s.cause ≡ Refused f))
    ⊎ ((p : Segment) × (answers ≡ Ok (segment p) ∷ []) × (old.shadow.last + 1 < first_txid p.txs) × (s.cause ≡ Disorder))

abbrev pub NotEdited : Standby → List Answer → Standby → StepFault → Type 0
NotEdited old answers new fault.AlreadyActive = ⊥
NotEdited old answers new (fault.Stopped s) = (new.stop ≡ Some s) × (s.txid ≡ old.shadow.last + 1) × ShowsSame old.shadow new.shadow × (new.rest ≡ in_hand old answers) × IsCause old answers s
NotEdited old answers new fault.BadLane = ⊥
NotEdited old answers new (fault.LogNotEnded f) = (answers ≡ Err f ∷ []) × (old.rest ≡ []) × (new ≡ old)
NotEdited old answers new fault.OutOfMemory = ShowsSame old.shadow new.shadow × (new.rest ≡ in_hand old answers) × (new.stop ≡ None)

module _ {S : Type 0} (gives : S → Answer → S → Type 0) where
  -- a step Edit
  abbrev pub Edits : S → Standby → S → Standby → Result Stepped StepFault → Type 0
  Edits s old t new result =
      (answers : List Answer) × Asked gives s answers t × Carries old answers new × SameLanes old new
      × MatchResult result (IsEdited old answers new) (NotEdited old answers new)

-- where the answer is the fault of the source
abbrev pub OnLogFault : {A : Type 0} → Result A StepFault → Type 0 → Type 0
OnLogFault (Ok x) P = Unit {0}
OnLogFault (Err fault.AlreadyActive) P = Unit {0}
OnLogFault (Err (fault.Stopped s)) P = Unit {0}
OnLogFault (Err fault.BadLane) P = Unit {0}
OnLogFault (Err (fault.LogNotEnded f)) P = P
OnLogFault (Err fault.OutOfMemory) P = Unit {0}

abbrev pub HasSegment : Result TakenUp StepFault → Type 0 → Type 0
HasSegment (Ok taken_up.End) P = Unit {0}
HasSegment (Ok taken_up.Old) P = P
HasSegment (Ok taken_up.New) P = P
HasSegment (Ok taken_up.Disorder) P = Unit {0}
HasSegment (Err f) P = Unit {0}
