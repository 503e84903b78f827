-- What a call wrote of a text.
use Rattle.std.specs.Prelude.{◌≡◌, ℕ, List, length}
use Rattle.nn_device.specs.Device.{Writer}
use Rattle.nn_device.specs.Parts.{TookPrefix}
use Rattle.nn_device.specs.declared.writer.OutputFault.{OutputFault}
use Rattle.nn_device.specs.declared.writer.OutputFault.TheVariants.{WriteFailed, OutOfMemory}
use Rattle.nn_image.specs.declared.fault.SaveFault.{SaveFault}
use Rattle.nn_image.specs.declared.fault.SaveFault.TheVariants.{WriteFault}
use Rattle.nn_image.specs.declared.fault.SaveFault.TheVariants as save

-- why not all was written
abbrev pub cause_of : SaveFault → OutputFault
cause_of (WriteFault written) = WriteFailed
cause_of save.OutOfMemory = OutOfMemory

-- a failed write is told with the number of bytes that were written
abbrev pub TellsWritten : SaveFault → List ℕ → Type 0
TellsWritten (WriteFault written) prefix = written ≡ length prefix
TellsWritten save.OutOfMemory prefix = Unit {0}

-- a prefix of the text was written
pub record WrotePrefix (old new : Writer) (text : List ℕ) (e : SaveFault) : Type 0 where
  pub took : TookPrefix old new text (cause_of e)
  pub told : TellsWritten e took.prefix
