-- What was said of a stop when it told a number in place of its cause. It follows.
use Rattle.std.proofs.Common.{◌≡◌, ℕ, ◌+◌, Option, Some, None, refl, sym, ap}
use Rattle.std.specs.Prelude.{option_map}
use Rattle.nn_types.specs.declared.edit.Edit.{Edit}
use Rattle.nn_types.specs.declared.edit_fault.EditFault.{EditFault}
use Rattle.nn_types.specs.EditFault.{number_of}
use Rattle.nn_model.specs.Apply.{refusal}
use Rattle.nn_model.specs.Namespace.{Namespace}
use Rattle.nn_shadow.specs.declared.fault.Stop.{Stop}
use Rattle.nn_shadow.specs.declared.fault.StopCause.{StopCause}
use Rattle.nn_shadow.specs.declared.fault.StopCause.TheVariants.{Refused}
use Rattle.nn_shadow.specs.Contents.{IsStop}
use Rattle.nn_shadow.specs.Numbers.{number_of_stop}

-- The transaction after the last one stopped the standby: its edit does not apply, and the fault has this number.
pub record IsNumberedStop (n : Namespace) (last : ℕ) (stop : Stop) : Type 0 where
  pub next : stop.txid ≡ last + 1
  pub edit : Edit
  pub fault : EditFault
  pub refused : refusal n edit ≡ Some fault
  pub number : number_of_stop stop.cause ≡ number_of fault

refused_by : (refused : Option EditFault) (cause : StopCause) → option_map (λ fault. Refused fault) refused ≡ Some cause
    → (fault : EditFault) × (refused ≡ Some fault) × (number_of_stop cause ≡ number_of fault)
refused_by None cause is = absurd (cc)
refused_by (Some fault) cause is = let same : Refused fault ≡ cause = cc in (fault, refl, ap number_of_stop (sym same))

pub is_numbered : (n : Namespace) (last : ℕ) (stop : Stop) → IsStop n last stop → IsNumberedStop n last stop
is_numbered n last stop s =
    let by = refused_by (refusal n s.edit) stop.cause s.refused in record { next = s.next; edit = s.edit; fault = by.0; refused = by.1; number = by.2 }
