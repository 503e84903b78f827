-- What a call that loads an image and then saves it leaves.
use Rattle.std.specs.Prelude.{◌≡◌, ℕ, Ok}
use Rattle.nn_device.specs.Device.{Reader, Writer, Took}
use Rattle.nn_model.specs.Namespace.{Namespace}
use Rattle.nn_model.specs.WellFormed.{IsWellFormed}
use Rattle.nn_image.specs.declared.fault.ImageFault.{ImageFault}
use Rattle.nn_image.specs.declared.fault.SaveFault.{SaveFault}
use Rattle.nn_image.specs.declared.fault.RewriteFault.{RewriteFault}
use Rattle.nn_image.specs.declared.fault.RewriteFault.TheVariants.{Load, Save}
use Rattle.nn_image.specs.Text.{image_text}
use Rattle.nn_image.specs.Reading.{read_image}
use Rattle.nn_image.specs.Loading.{GivesAtEnd}
use Rattle.nn_image.specs.Saving.{WrotePrefix}

-- The reader's whole text was read as some namespace at this txid, and the writer got the image of these, which is read as
-- them again.
pub record Rewrote (start end : Reader) (old new : Writer) (txid : ℕ) : Type 0 where
  pub namespace : Namespace
  pub well_formed : IsWellFormed namespace
  pub read : GivesAtEnd start.left end.left read_image (namespace, txid)
  pub unfailed : end.failed ≡ start.failed
  pub wrote : Took old new (image_text namespace txid)
  pub again : read_image (image_text namespace txid) ≡ Ok (namespace, txid)

-- The reader's whole text was read, and the writer got a prefix of the image.
pub record StoppedWriting (start end : Reader) (old new : Writer) (e : SaveFault) : Type 0 where
  pub namespace : Namespace
  pub txid : ℕ
  pub well_formed : IsWellFormed namespace
  pub read : GivesAtEnd start.left end.left read_image (namespace, txid)
  pub unfailed : end.failed ≡ start.failed
  pub prefix : WrotePrefix old new (image_text namespace txid) e

-- this holds of a fault of the loading
abbrev pub IfLoad : (ImageFault → Type 0) → RewriteFault → Type 0
IfLoad P (Load e) = P e
IfLoad P (Save e) = Unit {0}

-- this holds of a fault of the saving
abbrev pub IfSave : (SaveFault → Type 0) → RewriteFault → Type 0
IfSave P (Load e) = Unit {0}
IfSave P (Save e) = P e
