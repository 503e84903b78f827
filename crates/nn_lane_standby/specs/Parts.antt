-- What the parts of a step do.
use Rattle.std.specs.Prelude.{◌≡◌, ℕ, ◌+◌, true, false, List, ◌∷◌, length, Some, None, slice_index_or}
use Rattle.nn_types.specs.declared.report.Message.{Message}
use Rattle.nn_types.specs.declared.tx.Tx.{Tx}
use Rattle.nn_types.specs.declared.edit_fault.EditFault.{EditFault}
use Rattle.nn_model.specs.Apply.{refusal}
use Rattle.nn_lane.specs.Ends.{LaneEnd, lane_of, loads_of, known_count, StaysCounted}
use Rattle.nn_shadow.specs.declared.fault.Stop.{Stop}
use Rattle.nn_shadow.specs.declared.fault.StopCause.TheVariants.{Refused}
use Rattle.nn_shadow.specs.Contents.{Shadow}
use Rattle.nn_lane_standby.specs.Shadows.{ShowsSame, IsApplied, IsHanded}
use Rattle.nn_lane_standby.specs.declared.fault.StepFault.{StepFault}
use Rattle.nn_lane_standby.specs.declared.fault.StepFault.TheVariants.{AlreadyActive, Stopped, BadLane, LogNotEnded, OutOfMemory}
use Rattle.nn_lane_standby.specs.Tailing.{has_begun, Standby, handed_all, with_lane, with_undelivered, with_shadow, with_rest, stopping}

abbrev pub IsLive : Standby → Type 0
IsLive x = (has_begun x ≡ false) × (x.stop ≡ None) × (x.active ≡ false)

pub record AppliesNext (old : Standby) (txid : ℕ) (new : Standby) : Type 0 where
  pub tx : Tx
  pub rest : List Tx
  pub shown : Shadow
  pub was : old.rest ≡ tx ∷ rest
  pub applied : IsApplied old.shadow tx shown
  pub is_txid : txid ≡ tx.txid
  pub now : new ≡ with_shadow (with_rest old rest) shown

-- its edit is refused
pub record StopsAt (old : Standby) (s : Stop) (new : Standby) : Type 0 where
  pub tx : Tx
  pub rest : List Tx
  pub fault : EditFault
  pub shown : Shadow
  pub was : old.rest ≡ tx ∷ rest
  pub refused : refusal old.shadow.namespace tx.edit ≡ Some fault
  pub next : s.txid ≡ old.shadow.last + 1
  pub is_txid : s.txid ≡ tx.txid
  pub cause : s.cause ≡ Refused fault
  pub same : ShowsSame old.shadow shown
  pub active : shown.phase.active ≡ old.shadow.phase.active
  pub now : new ≡ stopping (with_shadow old shown) s

-- nothing is new but room
pub record IsAsBefore (old new : Standby) : Type 0 where
  pub shown : Shadow
  pub same : ShowsSame old.shadow shown
  pub phase : shown.phase ≡ old.shadow.phase
  pub now : new ≡ with_shadow old shown

abbrev pub NotApplied : Standby → Standby → StepFault → Type 0
NotApplied old new AlreadyActive = ⊥
NotApplied old new (Stopped s) = StopsAt old s new
NotApplied old new BadLane = ⊥
NotApplied old new (LogNotEnded fault) = ⊥
NotApplied old new OutOfMemory = IsAsBefore old new

-- a message is undelivered now, and nothing more was handed on
pub record Fetches (old : Standby) (i : ℕ) (m : Message) (new : Standby) : Type 0 where
  pub end : LaneEnd
  pub now : new ≡ with_lane old i end (Some m)
  pub lane : (d : LaneEnd) → lane_of end ≡ lane_of (slice_index_or old.ends i d)
  pub closed : (d : LaneEnd) → end.closed ≡ (slice_index_or old.ends i d).closed
  pub all_same : (d : LaneEnd) → end.closed ≡ true → StaysCounted (slice_index_or old.ends i d) end
  pub same : handed_all new.ends new.undelivered ≡ handed_all old.ends old.undelivered

-- the lane has no more
pub record FindsNone (old : Standby) (i accepted : ℕ) (new : Standby) : Type 0 where
  pub end : LaneEnd
  pub now : new ≡ with_lane old i end None
  pub lane : (d : LaneEnd) → lane_of end ≡ lane_of (slice_index_or old.ends i d)
  pub closed : (d : LaneEnd) → end.closed ≡ (slice_index_or old.ends i d).closed
  pub all_same : (d : LaneEnd) → end.closed ≡ true → StaysCounted (slice_index_or old.ends i d) end
  pub looked : (d : LaneEnd) → loads_of end ≡ loads_of (slice_index_or old.ends i d) + 1
  pub same : handed_all new.ends new.undelivered ≡ handed_all old.ends old.undelivered
  pub accepted_is : accepted ≡ length end.got
  pub all : known_count end ≡ length end.got

pub record HandsUndelivered (old : Standby) (i : ℕ) (m : Message) (new : Standby) : Type 0 where
  pub shown : Shadow
  pub handed : IsHanded old.shadow m shown
  pub now : new ≡ with_shadow (with_undelivered old i None) shown

abbrev pub NotHanded : Standby → Standby → StepFault → Type 0
NotHanded old new AlreadyActive = ⊥
NotHanded old new (Stopped s) = ⊥
NotHanded old new BadLane = ⊥
NotHanded old new (LogNotEnded fault) = ⊥
NotHanded old new OutOfMemory = IsAsBefore old new
