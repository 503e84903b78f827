-- Where a run begins, by the image that was read.
use Rattle.std.proofs.Common.{◌≡◌, ℕ, Bool, true, false, List, Option, Some, None, Result, Ok, Err, refl, sym, ap, subst}
use Rattle.std.specs.Prelude.{IfOk, MatchResult}
use Rattle.std.proofs.lemmas.Result.{IfOk-weaker}
use Rattle.nn_image.specs.Reading.{read_image}
use Rattle.nn_image.specs.declared.fault.ImageFault.{ImageFault}
use Rattle.nn_image.specs.declared.fault.ImageFault.TheVariants.{NotHeader}
use Rattle.nn_model.specs.Namespace.{Namespace}
use Rattle.nn_image.specs.Front.{Cut, divided, image_read}
use Rattle.nn_run.specs.Input.{loaded_in}
use Rattle.nn_run.specs.Output.{Printed, IsPrinted, IsPrintedFrom, image_fault}
use Rattle.nn_run.specs.Start.{Start, from_cut, from_image, scenario_in, start_in}
use Rattle.nn_run.specs.declared.engine.Options.{Options}

cut_read : (cut : Option Cut) (r : Result (Namespace × ℕ) ImageFault) → image_read cut ≡ Some r → from_cut cut ≡ from_image r
cut_read None r e = absurd (cc)
cut_read (Some cut) r e = let same : read_image cut.image ≡ r = cc in ap from_image same

no_cut : (cut : Option Cut) → image_read cut ≡ None → from_cut cut ≡ Err NotHeader
no_cut None e = refl
no_cut (Some cut) e = absurd (cc)

-- an image that was read
pub starts_from_image : (asked : Bool) (input : List ℕ) (r : Result (Namespace × ℕ) ImageFault) → loaded_in asked input ≡ Some r → start_in asked input ≡ from_image r
starts_from_image false input r e = absurd (cc)
starts_from_image true input r e = cut_read (divided input) r e

-- and none
pub starts_from_none : (input : List ℕ) → loaded_in true input ≡ None → start_in true input ≡ Err NotHeader
starts_from_none input e = no_cut (divided input) e

module _ (threads : Bool) (options : Options) (input : List ℕ) (p : Printed) where
  pub begun_so : (start : Start) → start_in options.from_image input ≡ Ok start → IsPrintedFrom start threads options (scenario_in options.from_image input) p → IsPrinted threads options input p
  begun_so start e is = subst (λ s. MatchResult s (λ start. IsPrintedFrom start threads options (scenario_in options.from_image input) p) (λ fault. p ≡ image_fault fault)) (sym e) is

  pub not_begun : (fault : ImageFault) → start_in options.from_image input ≡ Err fault → p ≡ image_fault fault → IsPrinted threads options input p
  not_begun fault e is = subst (λ s. MatchResult s (λ start. IsPrintedFrom start threads options (scenario_in options.from_image input) p) (λ fault. p ≡ image_fault fault)) (sym e) is

pub printed_from : {X E : Type 0} (shown : X → Printed) (threads : Bool) (options : Options) (input : List ℕ) (r : Result X E) (start : Start) → start_in options.from_image input ≡ Ok start
    → IfOk r (λ o. IsPrintedFrom start threads options (scenario_in options.from_image input) (shown o)) → IfOk r (λ o. IsPrinted threads options input (shown o))
printed_from shown threads options input r start e h = IfOk-weaker r _ _ (λ o is. begun_so threads options input (shown o) start e is) h
