-- What a writer has of a text that is written in parts.
use Rattle.std.specs.Prelude.{◌≡◌, ℕ, ◌+◌, ◌<◌, Bool, true, List, ◌++◌, length}
use Rattle.std.specs.Io.KnownBytes.{Appends}
use Rattle.nn_device.specs.Device.{Writer}
use Rattle.nn_device.specs.declared.writer.OutputFault.{OutputFault}
use Rattle.nn_device.specs.declared.writer.OutputFault.TheVariants.{WriteFailed, OutOfMemory}

-- A failed write was noted. Where memory ran out, no write failed.
abbrev pub Caused : OutputFault → Bool → Bool → Type 0
Caused WriteFailed before after = after ≡ true
Caused OutOfMemory before after = after ≡ before

-- The writer took a prefix of the text, which is not all of it, and nothing after it.
pub record TookPrefix (old new : Writer) (text : List ℕ) (cause : OutputFault) : Type 0 where
  pub prefix : List ℕ
  pub rest : List ℕ
  pub whole : text ≡ prefix ++ rest
  pub short : 0 < length rest
  pub bytes : Appends old.contents new.contents prefix
  pub counted : new.taken ≡ old.taken + length prefix
  pub caused : Caused cause old.failed new.failed
