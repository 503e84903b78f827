-- What was written is an output.
use Rattle.std.proofs.Common.{◌≡◌, ℕ, Bool, List, Result, refl, sym, subst, inl, inr}
use Rattle.std.specs.Prelude.{IfOk, IfErr}
use Rattle.std.specs.Io.KnownBytes.{IsAtEnd}
use Rattle.std.proofs.lemmas.Result.{IfOk-weaker, IfErr-weaker}
use Rattle.nn_device.specs.Device.{Reader, Writer, Took}
use Rattle.nn_input.specs.declared.fault.InputFault.{InputFault}
use Rattle.nn_input.specs.declared.fault.InputFault.TheVariants.{OutOfMemory}
use Rattle.nn_run.specs.declared.output.RunEnd.{RunEnd}
use Rattle.nn_run.specs.declared.output.RunFault.{RunFault}
use Rattle.nn_run.specs.declared.engine.Options.{Options}
use Rattle.nn_run.specs.Input.{IsUnread, IsReadOfAll}
use Rattle.nn_run.specs.Output.{Printed, IsPrinted}
use Rattle.nn_run.specs.Shown.{EndsWith, Finished, FinishedPrefix, IsToCome}
use Rattle.nn_run.specs.Run.{Given, IsOutput, NoneFailed, WroteOutput, WroteOutputPrefix, Unfinished, error_of, running, unread}

-- what a whole output, and what a prefix of one, is where this output was written
pub record Writes (given : Given) (r : Result RunEnd RunFault) (writer writer' : Writer) : Type 0 where
  pub written : IfOk r (λ end. WroteOutput given writer writer' end.status (error_of end.fault))
  pub prefix : IfErr r (WroteOutputPrefix given writer writer')

pub writes : (given : Given) (r : Result RunEnd RunFault) (writer writer' : Writer) (p : Printed) → IsOutput given p →
    IfOk r (λ end. Took writer writer' p.text × EndsWith p end) →
    IfErr r (Unfinished writer writer' p.text) → Writes given r writer writer'
writes given r writer writer' p right ok err = record {
  written = IfOk-weaker r _ _ (λ end e. record { output = p; right = right; took = e.0; ends = e.1.0; told = e.1.1 }) ok;
  prefix = IfErr-weaker r _ _ (λ e w. record { output = p; right = right; prefix = w }) err;
}

pub is_output_of_all : (given : Given) (p : Printed) (is_read : List ℕ → Type 0) (all : IsReadOfAll given.options.from_image is_read given.before given.after) → IsAtEnd given.after.left →
    NoneFailed given → IsPrinted given.threads given.options all.input p → IsOutput given p
is_output_of_all given p is_read all whole none is = inl (record { input = all.input; taken = all.taken; counted = all.counted; whole = whole; fits = all.fits; is = is }, none)

pub is_no_memory : (given : Given) → NoneFailed given → IsOutput given (unread OutOfMemory)
is_no_memory given none = inr (OutOfMemory, refl, none)

-- an output, or the line that there was no memory for it
pub finishes : (given : Given) (r : Result RunEnd RunFault) (writer writer' : Writer) (p : Printed) → NoneFailed given → IsOutput given p →
    IfOk r (Finished p writer writer') → IfErr r (FinishedPrefix p writer writer') → Writes given r writer writer'
finishes given r writer writer' p none right ok err = record {
  written = IfOk-weaker r _ _ (λ end f. record { output = f.output; right = is_output f.output f.right; took = f.took; ends = f.ends.0; told = f.ends.1 }) ok;
  prefix = IfErr-weaker r _ _ (λ e f. record { output = f.output; right = is_output f.output f.right; prefix = f.prefix }) err;
}
  where
    is_output : (q : Printed) → IsToCome p q → IsOutput given q
    is_output q (inl same) = subst (IsOutput given) (sym same) right
    is_output q (inr empty) = subst (IsOutput given) (sym empty) (is_no_memory given none)

pub writes_unread : (options : Options) (threads : Bool) (before after : Reader) (r : Result RunEnd RunFault) (writer writer' : Writer)
    (fault : InputFault) → IsUnread options.from_image before after fault →
    IfOk r (λ end. Took writer writer' (unread fault).text × EndsWith (unread fault) end) →
    IfErr r (Unfinished writer writer' (unread fault).text) → Writes (running options threads before after) r writer writer'
writes_unread options threads before after r writer writer' fault why ok err =
    writes (running options threads before after) r writer writer' (unread fault) (inr (fault, refl, why)) ok err
