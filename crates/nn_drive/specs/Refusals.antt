-- Which drives are refused before a thread is started, and which faults of a step a drive may meet.
use Rattle.std.specs.Prelude.{◌≡◌, Option, option_map, [], ◌∷◌}
use Rattle.nn_model.specs.Apply.{fault_if, first_fault}
use Rattle.nn_lane_standby.specs.declared.fault.StepFault.{StepFault}
use Rattle.nn_lane_standby.specs.declared.fault.StepFault.TheVariants as step
use Rattle.nn_lane_standby.specs.Tailing.{has_begun, Standby}
use Rattle.nn_drive.specs.declared.driving.DriveFault.{DriveFault}
use Rattle.nn_drive.specs.declared.driving.DriveFault.TheVariants as drive

-- the flush has begun, or the standby was stopped: the first cause in order is answered
abbrev pub drive_refusal : Standby → Option DriveFault
drive_refusal x = first_fault (fault_if (has_begun x) drive.AlreadyActive ∷ option_map (λ stop. drive.Stopped stop) x.stop ∷ [])

-- ---- For private clauses.

-- a standby that serves meets this at a lane that it has
abbrev pub MayCome : StepFault → Type 0
MayCome step.AlreadyActive = ⊥
MayCome (step.Stopped s) = Unit {0}
MayCome step.BadLane = ⊥
MayCome (step.LogNotEnded f) = Unit {0}
MayCome step.OutOfMemory = Unit {0}

-- the same fault, of a drive
abbrev pub IsSameFault : StepFault → DriveFault → Type 0
IsSameFault step.AlreadyActive g = ⊥
IsSameFault (step.Stopped s) g = g ≡ drive.Stopped s
IsSameFault step.BadLane g = ⊥
IsSameFault (step.LogNotEnded f) g = g ≡ drive.LogNotEnded f
IsSameFault step.OutOfMemory g = g ≡ drive.OutOfMemory
