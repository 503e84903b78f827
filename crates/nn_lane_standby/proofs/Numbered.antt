-- What was said of a stop when it told a number in place of its cause. It follows.
use Rattle.std.proofs.Common.{inl, inr, ◌≡◌, ℕ, ◌+◌, ◌<◌, List, [], ◌∷◌, ◌++◌, Some, Ok, Err, refl, ap}
use Rattle.std.specs.Prelude.{◌⊎◌}
use Rattle.nn_types.specs.declared.edit_fault.EditFault.{EditFault}
use Rattle.nn_types.specs.declared.fault.TheConstants.{DISORDER}
use Rattle.nn_types.specs.declared.tx.Tx.{Tx}
use Rattle.nn_types.specs.EditFault.{number_of}
use Rattle.nn_model.specs.Apply.{refusal}
use Rattle.nn_model.specs.Namespace.{Namespace}
use Rattle.nn_segment.specs.LogEnd.{StopCause as LogCause, stop_number, end_of_log, given_in}
use Rattle.nn_segment.specs.Segment.{Segment, first_txid}
use Rattle.nn_segment.specs.Source.{Answer}
use Rattle.nn_segment.specs.declared.source.Item.TheVariants.{Segment as segment}
use Rattle.nn_shadow.specs.declared.fault.Stop.{Stop}
use Rattle.nn_shadow.specs.declared.fault.StopCause.{StopCause}
use Rattle.nn_shadow.specs.declared.fault.StopCause.TheVariants.{Refused, Disorder}
use Rattle.nn_shadow.specs.Numbers.{number_of_stop}
use Rattle.nn_lane_standby.specs.Parts.{StopsAt}
use Rattle.nn_lane_standby.specs.Steps.{in_hand, IsCause}
use Rattle.nn_lane_standby.specs.Tailing.{Standby, log_cause, StopsLog}

same_number : (cause : StopCause) → stop_number (log_cause cause) ≡ number_of_stop cause
same_number (Refused fault) = refl
same_number Disorder = refl

-- the log of what was given stops with this, whatever segments come later
abbrev pub StopsLogByNumber : Namespace → ℕ → List Answer → Stop → Type 0
StopsLogByNumber start base given s =
    (cause : LogCause) × (stop_number cause ≡ number_of_stop s.cause)
    × ((later : List Segment) → end_of_log base start (given_in given ++ later) ≡ Err (record { cause = cause; txid = s.txid }))

pub stops_log_by_number : (start : Namespace) (base : ℕ) (given : List Answer) (s : Stop) → StopsLog start base given s → StopsLogByNumber start base given s
stops_log_by_number start base given s stops = (log_cause s.cause, same_number s.cause, stops)

-- why the standby stops: the next edit is refused, or the segment begins too high
abbrev pub IsCauseByNumber : Standby → List Answer → Stop → Type 0
IsCauseByNumber old answers s =
    ((tx : Tx) × (rest : List Tx) × (f : EditFault) × (in_hand old answers ≡ tx ∷ rest) × (refusal old.shadow.namespace tx.edit ≡ Some f) × (number_of_stop s.cause ≡ number_of f))
    ⊎ ((p : Segment) × (answers ≡ Ok (segment p) ∷ []) × (old.shadow.last + 1 < first_txid p.txs) × (number_of_stop s.cause ≡ DISORDER))

pub is_cause_by_number : (old : Standby) (answers : List Answer) (s : Stop) → IsCause old answers s → IsCauseByNumber old answers s
is_cause_by_number old answers s (inl h) = inl (h.0, h.1, h.2, h.3, h.4, ap number_of_stop h.5)
is_cause_by_number old answers s (inr h) = inr (h.0, h.1, h.2, ap number_of_stop h.3)

-- a stop that an edit caused has the number of its fault
pub stops_at_by_number : (old : Standby) (s : Stop) (new : Standby) (a : StopsAt old s new) → number_of_stop s.cause ≡ number_of a.fault
stops_at_by_number old s new a = ap number_of_stop a.cause
