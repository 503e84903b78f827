-- What reading the log does.
use Rattle.std.specs.Prelude.{◌≡◌, ◌+◌, List, [], ◌∷◌, ◌++◌, Some, None, Result, Err, MatchResult}
use Rattle.nn_segment.specs.Source.{Answer}
use Rattle.nn_segment.specs.declared.fault.SourceFault.{SourceFault}
use Rattle.nn_lane_standby.specs.declared.fault.StepFault.{StepFault}
use Rattle.nn_lane_standby.specs.declared.fault.StepFault.TheVariants as fault
use Rattle.nn_lane_standby.specs.Tailing.{Standby, Carries, LogStops}
use Rattle.nn_lane_standby.specs.Steps.{SameLanes}

-- the last answer of a source was this fault
abbrev pub EndsInFault : List Answer → SourceFault → Type 0
EndsInFault answers f = (before : List Answer) × (answers ≡ before ++ Err f ∷ [])

-- why reading ended early
abbrev pub WhyEnded : List Answer → Standby → StepFault → Type 0
WhyEnded answers new fault.AlreadyActive = ⊥
WhyEnded answers new (fault.Stopped s) = (new.stop ≡ Some s) × (s.txid ≡ new.shadow.last + 1)
WhyEnded answers new fault.BadLane = ⊥
WhyEnded answers new (fault.LogNotEnded f) = (new.stop ≡ None) × EndsInFault answers f
WhyEnded answers new fault.OutOfMemory = new.stop ≡ None

-- with 51 the log stops: all that was given before, and these answers; and the fault of a source is its last answer
abbrev pub StopsFor : Standby → List Answer → StepFault → Type 0
StopsFor old answers fault.AlreadyActive = Unit {0}
StopsFor old answers (fault.Stopped s) = LogStops old answers s
StopsFor old answers fault.BadLane = Unit {0}
StopsFor old answers (fault.LogNotEnded f) = EndsInFault answers f
StopsFor old answers fault.OutOfMemory = Unit {0}

-- and the standby is stopped with what the fault says
abbrev pub StopsWith : Standby → StepFault → Type 0
StopsWith new fault.AlreadyActive = Unit {0}
StopsWith new (fault.Stopped s) = new.stop ≡ Some s
StopsWith new fault.BadLane = Unit {0}
StopsWith new (fault.LogNotEnded f) = Unit {0}
StopsWith new fault.OutOfMemory = Unit {0}

-- edits were applied: with the answer Ok this holds, and the standby is as live as before
abbrev pub EditsOn : Standby → List Answer → Standby → Type 0 → Result (Unit {0}) StepFault → Type 0
EditsOn old answers new done result =
    Carries old answers new × SameLanes old new × MatchResult result (λ _. done × (new.stop ≡ None)) (WhyEnded answers new)
