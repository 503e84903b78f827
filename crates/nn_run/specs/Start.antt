-- Where a run begins: with the root alone, or with the image that its input begins with.
use Rattle.std.specs.Prelude.{ℕ, Bool, true, false, List, Option, Some, None, Result, Ok, Err}
use Rattle.nn_model.specs.Namespace.{Namespace, root_alone}
use Rattle.nn_image.specs.Reading.{read_image}
use Rattle.nn_image.specs.declared.fault.ImageFault.{ImageFault}
use Rattle.nn_image.specs.declared.fault.ImageFault.TheVariants.{NotHeader}
use Rattle.nn_image.specs.Front.{Cut, divided, passed_over, rest_of}

-- a namespace, and the txid of its last transaction
pub record Start : Type 0 where
  pub namespace : Namespace
  pub txid : ℕ

abbrev pub from_root : Start
from_root = record { namespace = root_alone; txid = 0 }

-- that of an image, or the first fault of the image
abbrev pub from_image : Result (Namespace × ℕ) ImageFault → Result Start ImageFault
from_image (Ok image) = Ok (record { namespace = image.0; txid = image.1 })
from_image (Err fault) = Err fault

abbrev pub from_cut : Option Cut → Result Start ImageFault
from_cut None = Err NotHeader
from_cut (Some cut) = from_image (read_image cut.image)

-- the start of an input, where its image is asked for or not
abbrev pub start_in : Bool → List ℕ → Result Start ImageFault
start_in false input = Ok from_root
start_in true input = from_cut (divided input)

-- its scenario: all of it, or what follows the image
abbrev pub scenario_in : Bool → List ℕ → List ℕ
scenario_in false input = input
scenario_in true input = rest_of (divided input)

-- how many bytes are passed over before its image
abbrev pub passed_in : Bool → List ℕ → ℕ
passed_in false input = 0
passed_in true input = passed_over input
