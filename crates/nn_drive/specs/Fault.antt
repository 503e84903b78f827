-- The numbers of the faults of this crate.
use Rattle.std.specs.Prelude.{ℕ}
use Rattle.nn_types.specs.declared.fault.TheConstants.{ALREADY_ACTIVE, STOPPED, LOG_NOT_ENDED, MEMORY}
use Rattle.nn_drive.specs.declared.driving.DriveFault.{DriveFault}
use Rattle.nn_drive.specs.declared.driving.DriveFault.TheVariants.{AlreadyActive, Stopped, LogNotEnded, OutOfMemory}

abbrev pub number_of : DriveFault → ℕ
number_of AlreadyActive = ALREADY_ACTIVE
number_of (Stopped stop) = STOPPED
number_of (LogNotEnded fault) = LOG_NOT_ENDED
number_of OutOfMemory = MEMORY
