-- The number of each fault of an image.
use Rattle.std.specs.Prelude.{ℕ}
use Rattle.nn_types.specs.declared.fault.TheConstants.{NOT_HEADER, BAD_IMAGE_LINE, WRONG_ORDER, COUNT_MISMATCH, TRUNCATED, BAD_VERSION, READ_FAULT, WRITE_FAULT, MEMORY}
use Rattle.nn_image.specs.declared.fault.ImageFault.{ImageFault}
use Rattle.nn_image.specs.declared.fault.ImageFault.TheVariants.{NotHeader, BadLine, WrongOrder, CountMismatch, Truncated, BadVersion, ReadFault, OutOfMemory}
use Rattle.nn_image.specs.declared.fault.SaveFault.{SaveFault}
use Rattle.nn_image.specs.declared.fault.SaveFault.TheVariants as save
use Rattle.nn_image.specs.declared.fault.RewriteFault.{RewriteFault}
use Rattle.nn_image.specs.declared.fault.RewriteFault.TheVariants.{Load, Save}

abbrev pub number_of : ImageFault → ℕ
number_of NotHeader = NOT_HEADER
number_of (BadLine line) = BAD_IMAGE_LINE
number_of (WrongOrder line) = WRONG_ORDER
number_of CountMismatch = COUNT_MISMATCH
number_of Truncated = TRUNCATED
number_of BadVersion = BAD_VERSION
number_of ReadFault = READ_FAULT
number_of OutOfMemory = MEMORY

abbrev pub save_number_of : SaveFault → ℕ
save_number_of (save.WriteFault written) = WRITE_FAULT
save_number_of save.OutOfMemory = MEMORY

abbrev pub rewrite_number_of : RewriteFault → ℕ
rewrite_number_of (Load fault) = number_of fault
rewrite_number_of (Save fault) = save_number_of fault
