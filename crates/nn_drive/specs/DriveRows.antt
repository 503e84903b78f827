-- Which drives are refused before a thread is started, and the numbers of the faults, computed.
use Rattle.std.specs.Prelude.{◌≡◌, Bool, true, false, [], ◌∷◌, Option, Some, None, map, refl}
use Rattle.nn_segment.specs.declared.fault.SourceFault.TheVariants.{Gone}
use Rattle.nn_shadow.specs.declared.fault.Stop.{Stop}
use Rattle.nn_shadow.specs.declared.fault.StopCause.TheVariants.{Disorder}
use Rattle.nn_lane_standby.specs.Tailing.{Standby}
use Rattle.nn_drive.specs.Fault.{number_of}
use Rattle.nn_drive.specs.Refusals.{drive_refusal}
use Rattle.nn_drive.specs.declared.driving.DriveFault.TheVariants.{AlreadyActive, Stopped, LogNotEnded, OutOfMemory}

abbrev gap : Stop
gap = record { txid = 3; cause = Disorder }

abbrev standby : Standby → Bool → Option Stop → Standby
standby x begun stop = record x { shadow = record x.shadow { phase = record { stopped = None; active = begun } }; stop = stop }

first_causes : (x : Standby) → map drive_refusal (standby x false None ∷ standby x false (Some gap) ∷ standby x true None ∷ standby x true (Some gap) ∷ [])
    ≡ None ∷ Some (Stopped gap) ∷ Some AlreadyActive ∷ Some AlreadyActive ∷ []
first_causes x = refl

numbers : map number_of (AlreadyActive ∷ Stopped gap ∷ LogNotEnded Gone ∷ OutOfMemory ∷ []) ≡ 53 ∷ 51 ∷ 54 ∷ 55 ∷ []
numbers = refl
