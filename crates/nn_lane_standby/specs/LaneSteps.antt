-- What a step of a lane does.
use Rattle.std.specs.Prelude.{◌≡◌, ◌≢◌, ℕ, ◌+◌, ◌<◌, ◌≤◌, true, Bool, List, [], ◌∷◌, ◌++◌, length, map, Option, None, Result, Ok, Err, slice_index_or, slice_set}
use Rattle.std.specs.List.{list_all}
use Rattle.nn_types.specs.declared.report.Message.{Message}
use Rattle.nn_lane.specs.Ends.{LaneEnd, lane_of, got_of, loads_of, known_count, StaysCounted}
use Rattle.nn_lane_standby.specs.declared.standby.Stepped.{Stepped}
use Rattle.nn_lane_standby.specs.declared.standby.Stepped.TheVariants as stepped
use Rattle.nn_lane_standby.specs.declared.fault.StepFault.{StepFault}
use Rattle.nn_lane_standby.specs.declared.fault.StepFault.TheVariants as fault
use Rattle.nn_lane_standby.specs.Shadows.{ShowsSame}
use Rattle.nn_model.specs.Namespace.{Namespace}
use Rattle.nn_model.specs.Lanes.{followed_by}
use Rattle.nn_model.specs.Held.{is_held}
use Rattle.nn_model.specs.History.{History}
use Rattle.nn_model.specs.Items.{items}
use Rattle.nn_model.specs.WellFormed.{Includes}
use Rattle.nn_segment.specs.Source.{Answer}
use Rattle.nn_shadow.specs.Contents.{standby_of, KeepsSettings}
use Rattle.nn_shadow.specs.Calls.{waits, items_added, received}
use Rattle.nn_shadow.specs.Refusals.{handed_as}
use Rattle.nn_shadow.specs.declared.fault.Handed.{Handed}
use Rattle.nn_lane_standby.specs.Tailing.{has_begun, Standby, standby_with_past, StandsAt, Carries, lanes_of, handed_all, undelivered_at}

-- an end of the same lane, as closed as before; once closed its count stays
abbrev pub SameEnd : LaneEnd → LaneEnd → Type 0
SameEnd e e' = (e'.lane ≡ e.lane) × (e'.closed ≡ e.closed) × (e.closed ≡ true → StaysCounted e e')

abbrev pub SameEnds : List LaneEnd → List LaneEnd → Type 0
SameEnds [] [] = Unit {0}
SameEnds [] (e ∷ es) = ⊥
SameEnds (e ∷ es) [] = ⊥
SameEnds (e ∷ es) (e' ∷ es') = SameEnd e e' × SameEnds es es'

abbrev pub handed_in : Standby → List (List Message)
handed_in x = handed_all x.ends x.undelivered

-- how many messages of a lane were handed on, and how many there are
abbrev pub handed_count : Standby → ℕ → ℕ
handed_count x i = length (slice_index_or (handed_in x) i [])

abbrev pub all_count : Standby → ℕ → ℕ
all_count x i = slice_index_or (map known_count x.ends) i 0

-- all that the lane has was handed on
abbrev pub IsDrained : Standby → ℕ → Type 0
IsDrained x i = (undelivered_at x i ≡ None) × (handed_count x i ≡ all_count x i)

-- all lanes are closed, and all that they had was handed on
abbrev pub is_closed_lane : LaneEnd → Bool
is_closed_lane e = e.closed

abbrev pub AllClosed : List LaneEnd → Type 0
AllClosed es = list_all is_closed_lane es ≡ true

-- nothing changes except one lane and the Shadow
pub record LaneFrame (old : Standby) (i : ℕ) (new : Standby) : Type 0 where
  pub carries : Carries old [] new
  pub same_ends : SameEnds old.ends new.ends
  pub end : LaneEnd
  pub message : Option Message
  pub ends : new.ends ≡ slice_set old.ends i end
  pub undelivered : new.undelivered ≡ slice_set old.undelivered i message
  pub others : (k : ℕ) → k ≢ i → IsDrained old k → IsDrained new k
  pub last : new.shadow.last ≡ old.shadow.last
  pub rest : new.rest ≡ old.rest
  pub stop : new.stop ≡ old.stop
  pub begun : has_begun new ≡ has_begun old
  pub active : new.active ≡ old.active
  pub settings : KeepsSettings old.shadow new.shadow

-- The next message of the lane was handed on, and the Shadow received it: so many of its items were processed, and so many held.
-- Which of them were held is what the definition says of the log and the lanes at which the standby stood
pub record HandsNext (old : Standby) (i : ℕ) (handed : Handed) (new : Standby) : Type 0 where
  pub message : Message
  pub node : message.dn ≡ i + 1
  pub lanes : handed_in new ≡ slice_set (handed_in old) i (slice_index_or (handed_in old) i [] ++ message ∷ [])
  pub few : handed_count old i + 1 ≤ all_count new i
  pub none_undelivered : undelivered_at new i ≡ None
  pub standby : standby_of new.shadow ≡ received (standby_of old.shadow) message
  pub answer : handed_as (standby_of old.shadow) message ≡ handed
  pub held : (past : History) (start : Namespace) (base : ℕ) (given : List Answer) → StandsAt start base given (standby_with_past past old) → (item : Message) → Includes (items_added (standby_of old.shadow) message) item
      → waits (standby_of old.shadow) item ≡ is_held old.shadow.namespace (items (followed_by (lanes_of old) message) message.dn) item

-- it was tried to take from the lane once
abbrev pub LookedOnce : Standby → ℕ → Standby → Type 0
LookedOnce old i new = (d : LaneEnd) → loads_of (slice_index_or new.ends i d) ≡ loads_of (slice_index_or old.ends i d) + 1

abbrev pub LaneMoves : Standby → ℕ → Standby → Result Stepped StepFault → Type 0
LaneMoves old i new (Ok (stepped.Handed processed held)) = HandsNext old i (record { processed = processed; held = held }) new
LaneMoves old i new (Ok (stepped.Empty n)) = (new.shadow ≡ old.shadow) × (handed_in new ≡ handed_in old) × IsDrained new i × (n ≡ handed_count new i) × LookedOnce old i new
LaneMoves old i new (Ok (stepped.Applied txid)) = ⊥
LaneMoves old i new (Ok stepped.Passed) = ⊥
LaneMoves old i new (Ok stepped.LogEnded) = ⊥
LaneMoves old i new (Err fault.OutOfMemory) = ShowsSame old.shadow new.shadow × (handed_in new ≡ handed_in old)
LaneMoves old i new (Err fault.AlreadyActive) = ⊥
LaneMoves old i new (Err (fault.Stopped s)) = ⊥
LaneMoves old i new (Err fault.BadLane) = ⊥
LaneMoves old i new (Err (fault.LogNotEnded f)) = ⊥

-- nothing changes except the lanes and the Shadow
pub record LanesFrame (old new : Standby) : Type 0 where
  pub carries : Carries old [] new
  pub same_ends : SameEnds old.ends new.ends
  pub last : new.shadow.last ≡ old.shadow.last
  pub rest : new.rest ≡ old.rest
  pub stop : new.stop ≡ old.stop
  pub begun : has_begun new ≡ has_begun old
  pub active : new.active ≡ old.active
  pub settings : KeepsSettings old.shadow new.shadow

abbrev pub AreDrained : Standby → Type 0
AreDrained x = (k : ℕ) → k < length x.ends → IsDrained x k

-- an end was closed: all that it carries is counted, and what was counted at an earlier close stays
abbrev pub ClosesEnd : LaneEnd → LaneEnd → Type 0
ClosesEnd e e' =
    (lane_of e' ≡ lane_of e) × (got_of e' ≡ got_of e) × (e'.closed ≡ true) × (length (got_of e') ≤ known_count e') × (e.closed ≡ true → StaysCounted e e') × (loads_of e' ≡ loads_of e)

abbrev pub CloseEnds : List LaneEnd → List LaneEnd → Type 0
CloseEnds [] [] = Unit {0}
CloseEnds [] (e ∷ es) = ⊥
CloseEnds (e ∷ es) [] = ⊥
CloseEnds (e ∷ es) (e' ∷ es') = ClosesEnd e e' × CloseEnds es es'
