-- What is told beside an output is written.
use Rattle.std.proofs.Common.{◌≡◌, ◌⊎◌, ℕ, List, [], Result, Ok, Err, subst, inl, inr}
use Rattle.std.specs.Prelude.{IfErr, OnOk}
use Rattle.nn_device.specs.Device.{Writer, Took}
use Rattle.nn_device.specs.Page.{Page, HasPut}
use Rattle.nn_device.specs.Parts.{TookPrefix}
use Rattle.nn_device.specs.declared.writer.OutputFault.{OutputFault}
use Rattle.nn_device.specs.declared.writer.OutputFault.TheVariants.{WriteFailed}
use Rattle.nn_run.specs.Run.{error_of, failed}
use Rattle.nn_run.specs.declared.failure.RunFailure.{RunFailure}
use Rattle.nn_run.proofs.FailureLemmas.{error_said}
use Rattle.nn_command.specs.Program.{TellsBeside}

-- a page was put that began with this writer, and was ended
pub beside : {A : Type 0} (why : RunFailure) (r : Result A OutputFault) (page : Page) (start put ended : Writer) → HasPut start (failed why).error page put
    → OnOk r ((start : Writer) (text : List ℕ) → HasPut start text page put → Took start ended text)
    → IfErr r (λ cause. (start : Writer) (text : List ℕ) → HasPut start text page put → TookPrefix start ended text cause)
    → IfErr r (λ cause. cause ≡ WriteFailed) → TellsBeside (failed why).error start ended
beside why r page start put ended has ok prefix cause = record { wrote = at r ok prefix cause; silent = λ none. absurd (error_said why none) }
  where
    at : {A : Type 0} (r : Result A OutputFault) → OnOk r ((start : Writer) (text : List ℕ) → HasPut start text page put → Took start ended text)
        → IfErr r (λ cause. (start : Writer) (text : List ℕ) → HasPut start text page put → TookPrefix start ended text cause)
        → IfErr r (λ cause. cause ≡ WriteFailed) → Took start ended (failed why).error ⊎ TookPrefix start ended (failed why).error WriteFailed
    at (Ok x) ok prefix cause = inl (ok start (failed why).error has)
    at (Err fault) ok prefix cause = inr (subst (TookPrefix start ended (failed why).error) cause (prefix start (failed why).error has))
