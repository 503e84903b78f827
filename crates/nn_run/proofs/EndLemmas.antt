-- What the run of an input comes to, by its start and its scenario.
use Rattle.std.proofs.Common.{◌≡◌, ℕ, List, Result, Ok, Err, sym, subst}
use Rattle.nn_image.specs.declared.fault.ImageFault.{ImageFault}
use Rattle.nn_shadow.specs.Contents.{Shadow}
use Rattle.nn_run.specs.Ends.{EndsFrom, IsRunOf, RunEnds}
use Rattle.nn_run.specs.Start.{Start, scenario_in, start_in}
use Rattle.nn_run.specs.declared.engine.Options.{Options}
use Rattle.nn_run.specs.declared.following.BadInput.{BadInput}
use Rattle.nn_run.specs.declared.following.BadInput.TheVariants as halt

-- a run that did not begin with the fault of an image
run_ends : (options : Options) (start : Result Start ImageFault) (text : List ℕ) (r : Result Shadow BadInput) → EndsFrom options start text r → RunEnds options start text r
run_ends options start text (Ok standby) h = h
run_ends options start text (Err (halt.Image fault)) h = absurd h.4
run_ends options start text (Err (halt.Line bad)) h = h
run_ends options start text (Err (halt.Segment bad)) h = h
run_ends options start text (Err (halt.Log fault)) h = h

module _ (options : Options) (input : List ℕ) where
  -- its lines were followed from here
  pub run_of_lines : (start : Result Start ImageFault) (text : List ℕ) (r : Result Shadow BadInput) → start_in options.from_image input ≡ start → scenario_in options.from_image input ≡ text
      → EndsFrom options start text r → IsRunOf options input r
  run_of_lines start text r from is ends =
      subst (λ s. RunEnds options s (scenario_in options.from_image input) r) (sym from) (subst (λ t. RunEnds options start t r) (sym is) (run_ends options start text r ends))
