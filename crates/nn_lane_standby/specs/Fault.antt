-- The numbers of the faults of this crate.
use Rattle.std.specs.Prelude.{ℕ}
use Rattle.nn_types.specs.declared.fault.TheConstants.{ALREADY_ACTIVE, STOPPED, BAD_LANE, LOG_NOT_ENDED, MEMORY, INTAKE_OPEN}
use Rattle.nn_lane_standby.specs.declared.fault.StepFault.{StepFault}
use Rattle.nn_lane_standby.specs.declared.fault.StepFault.TheVariants.{AlreadyActive, Stopped, BadLane, LogNotEnded, OutOfMemory}
use Rattle.nn_lane_standby.specs.declared.fault.PromoteFault.{PromoteFault}
use Rattle.nn_lane_standby.specs.declared.fault.PromoteFault.TheVariants as promotion

abbrev pub number_of_step : StepFault → ℕ
number_of_step AlreadyActive = ALREADY_ACTIVE
number_of_step (Stopped stop) = STOPPED
number_of_step BadLane = BAD_LANE
number_of_step (LogNotEnded fault) = LOG_NOT_ENDED
number_of_step OutOfMemory = MEMORY

abbrev pub number_of_promotion : PromoteFault → ℕ
number_of_promotion promotion.AlreadyActive = ALREADY_ACTIVE
number_of_promotion promotion.IntakeOpen = INTAKE_OPEN
number_of_promotion (promotion.Step fault) = number_of_step fault
