use Rattle.std.specs.Prelude.{length}
use Rattle.nn_scenario.specs.Steps.{lanes_of_steps}
use Rattle.nn_run.proofs.InMemoryLemmas.{Filling}
use Rattle.nn_run.proofs.threads.sources_of.Given as goal

abbrev pub invariant-steps : goal.invariant-steps
invariant-steps g l = Filling l.datanodes (lanes_of_steps l.fn.steps) l.steps l.sources.items

abbrev pub decreases-steps : goal.decreases-steps
decreases-steps g l = length l.steps
