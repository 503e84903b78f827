-- What a standby with lanes shows, and when it stands at a log and its lanes.
use Rattle.std.specs.Prelude.{◌≡◌, ℕ, zero, suc, ◌+◌, ◌-◌, ◌≤◌, Bool, true, false, List, [], ◌∷◌, ◌++◌, length, take, Option, Some, None, Result, Err, slice_index_or, slice_set}
use Rattle.nn_types.specs.declared.report.Message.{Message}
use Rattle.nn_types.specs.declared.tx.Tx.{Tx}
use Rattle.nn_types.specs.Limits.{max_datanodes}
use Rattle.nn_model.specs.Namespace.{Namespace}
use Rattle.nn_model.specs.Lanes.{Lanes}
use Rattle.nn_lane.specs.Ends.{LaneEnd, node_of, known_count}
use Rattle.nn_model.specs.Log.{CountsUp}
use Rattle.nn_model.specs.History.{History, IsBeforeFlush}
use Rattle.nn_model.specs.Stands.{Stands}
use Rattle.nn_shadow.specs.declared.fault.Stop.{Stop}
use Rattle.nn_shadow.specs.declared.fault.StopCause.{StopCause}
use Rattle.nn_shadow.specs.declared.fault.StopCause.TheVariants.{Refused, Disorder}
use Rattle.nn_shadow.specs.Contents.{Shadow, standby_of, last_number_in}
use Rattle.nn_lane_standby.specs.Shadows.{shadow_with_past}
use Rattle.nn_segment.specs.Source.{Answer, end}
use Rattle.nn_segment.specs.Segment.{Segment}
use Rattle.nn_segment.specs.Walk.{log_in}
use Rattle.nn_segment.specs.LogEnd.{StopCause as LogCause, refused, disorder, LogStop, LogEnd, end_of_log, end_behind, given_in}

pub record Standby : Type 0 where
  pub shadow : Shadow
  pub ends : List LaneEnd
  pub undelivered : List (Option Message)  -- for each lane the message that was taken and not handed on, because memory ran out
  pub rest : List Tx  -- what is left of the segment in hand
  pub stop : Option Stop
  pub active : Bool  -- whether it was promoted

-- whether the flush has begun: from then on nothing comes in
abbrev pub has_begun : Standby → Bool
has_begun x = x.shadow.phase.active

-- the messages that were handed on: all that were taken, without one that is undelivered
abbrev pub handed : List Message → Option Message → List Message
handed got None = got
handed got (Some m) = take (length got - 1) got

abbrev pub handed_all : List LaneEnd → List (Option Message) → List (List Message)
handed_all [] ks = []
handed_all (e ∷ es) [] = e.got ∷ handed_all es []
handed_all (e ∷ es) (k ∷ ks) = handed e.got k ∷ handed_all es ks

-- the messages of each DataNode, from 1 on
abbrev pub by_node : List (List Message) → Lanes
by_node ts zero = []
by_node ts (suc k) = slice_index_or ts k []

abbrev pub lanes_of : Standby → Lanes
lanes_of x = by_node (handed_all x.ends x.undelivered)

-- an undelivered message is the last that was taken of its lane
abbrev pub IsUndelivered : ℕ → LaneEnd → Option Message → Type 0
IsUndelivered dn e None = Unit {0}
IsUndelivered dn e (Some m) = (before : List Message) × (e.got ≡ before ++ m ∷ []) × (m.number ≡ length e.got) × (m.dn ≡ dn) × (length e.got ≤ known_count e)

-- the lanes are those of the DataNodes from this one on
abbrev pub AreUndelivered : ℕ → List LaneEnd → List (Option Message) → Type 0
AreUndelivered dn [] [] = Unit {0}
AreUndelivered dn [] (k ∷ ks) = ⊥
AreUndelivered dn (e ∷ es) [] = ⊥
AreUndelivered dn (e ∷ es) (k ∷ ks) = (node_of e ≡ dn) × IsUndelivered dn e k × AreUndelivered (dn + 1) es ks

-- what is true of every standby
pub record Keeps (x : Standby) : Type 0 where
  pub lanes : AreUndelivered 1 x.ends x.undelivered
  pub few : length x.ends ≤ max_datanodes
  pub count : length x.shadow.numbers ≡ length x.ends
  pub numbers : (dn : ℕ) → last_number_in x.shadow.numbers dn ≡ length (lanes_of x dn)
  pub next : CountsUp x.shadow.last x.rest
  pub live : x.stop ≡ None → x.shadow.phase.stopped ≡ None
  pub stops : (s : Stop) → x.stop ≡ Some s → s.txid ≡ x.shadow.last + 1
  pub begun_live : has_begun x ≡ true → x.stop ≡ None
  pub not_begun : has_begun x ≡ false → x.active ≡ false
  pub before_flush : x.active ≡ false → IsBeforeFlush x.shadow.history

-- the last answer of a source was End
abbrev pub EndsInEnd : List Answer → Type 0
EndsInEnd given = (before : List Answer) × (given ≡ before ++ end ∷ [])

-- each lane is closed, and all that was counted then was taken and handed on
abbrev pub AllTaken : List LaneEnd → List (Option Message) → Type 0
AllTaken [] ks = Unit {0}
AllTaken (e ∷ es) [] = ⊥
AllTaken (e ∷ es) (k ∷ ks) = (e.closed ≡ true) × (k ≡ None) × (length e.got ≡ known_count e) × AllTaken es ks

-- where the log goes from here, whatever segments come later: through what is in hand, and then through them
abbrev pub way_on : Standby → List Segment → Result LogEnd LogStop
way_on x later = end_behind x.shadow.last x.shadow.namespace x.rest later

-- the cause of a standby's stop, as one of its log's
abbrev pub log_cause : StopCause → LogCause
log_cause (Refused fault) = refused fault
log_cause Disorder = disorder

-- the log of what was given stops with this, whatever segments come later
abbrev pub StopsLog : Namespace → ℕ → List Answer → Stop → Type 0
StopsLog start base given s = (later : List Segment) → end_of_log base start (given_in given ++ later) ≡ Err (record { cause = log_cause s.cause; txid = s.txid })

-- The standby stands at its base, at what the sources answered so far, and at the messages that were handed on:
-- its Shadow stands at the first part of the log of all segments given, and the rest of that log is in hand. Whatever
-- segments come later, the log of all ends as what is in hand and they do from here; or it stops where the standby did.
pub record StandsAt (start : Namespace) (base : ℕ) (given : List Answer) (x : Standby) : Type 0 where
  pub txs : List Tx
  pub shadow : Stands start base txs (lanes_of x) (standby_of x.shadow)
  pub before_flush : x.active ≡ false → IsBeforeFlush x.shadow.history
  pub log : log_in base given ≡ txs ++ x.rest
  pub goes_on : x.stop ≡ None → (later : List Segment) → end_of_log base start (given_in given ++ later) ≡ way_on x later
  pub stops : (s : Stop) → x.stop ≡ Some s → StopsLog start base given s
  pub ended : has_begun x ≡ true → (x.rest ≡ []) × EndsInEnd given × AllTaken x.ends x.undelivered

-- the standby once its history was taken
abbrev pub standby_without_history : Standby → Standby
standby_without_history x = record x { shadow = record x.shadow { history = [] } }

-- the standby as if it had kept these events too, which were taken from its history before
abbrev pub standby_with_past : History → Standby → Standby
standby_with_past past x = record x { shadow = shadow_with_past past x.shadow }

-- wherever it stood, after whatever was taken from its history, it stands there with these answers more
abbrev pub Carries : Standby → List Answer → Standby → Type 0
Carries old answers new = (past : History) (start : Namespace) (base : ℕ) (given : List Answer) → StandsAt start base given (standby_with_past past old) → StandsAt start base (given ++ answers) (standby_with_past past new)

-- wherever it stood, the log of all that was given then and of these answers stops with this
abbrev pub LogStops : Standby → List Answer → Stop → Type 0
LogStops old answers s = (past : History) (start : Namespace) (base : ℕ) (given : List Answer) → StandsAt start base given (standby_with_past past old) → StopsLog start base (given ++ answers) s

-- ---- changed standbys

abbrev pub with_lane : Standby → ℕ → LaneEnd → Option Message → Standby
with_lane x i e k = record x { ends = slice_set x.ends i e; undelivered = slice_set x.undelivered i k }

abbrev pub with_ends : Standby → List LaneEnd → Standby
with_ends x es = record x { ends = es }

abbrev pub with_undelivered : Standby → ℕ → Option Message → Standby
with_undelivered x i k = record x { undelivered = slice_set x.undelivered i k }

abbrev pub with_shadow : Standby → Shadow → Standby
with_shadow x s = record x { shadow = s }

abbrev pub with_rest : Standby → List Tx → Standby
with_rest x rest = record x { rest = rest }

abbrev pub stopping : Standby → Stop → Standby
stopping x s = record x { stop = Some s }

abbrev pub lane_at : Standby → ℕ → LaneEnd → LaneEnd
lane_at x i d = slice_index_or x.ends i d

abbrev pub undelivered_at : Standby → ℕ → Option Message
undelivered_at x i = slice_index_or x.undelivered i None
