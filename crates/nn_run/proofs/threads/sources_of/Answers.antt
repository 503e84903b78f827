use Rattle.std.proofs.Common.{subst, sym}
use Rattle.nn_scenario.specs.Steps.{lanes_of_steps}
use Rattle.nn_run.proofs.InMemoryLemmas.{Filling, nothing_in_memory, first_within, step_in_memory}
use Rattle.nn_run.proofs.threads.sources_of.Goals as goal

pub steps-init : goal.steps-init
steps-init g c = subst (λ l. Filling c.args.datanodes (lanes_of_steps c.args.steps) l c.in_ok-sources.sources.items) (sym c.into_steps-steps.ensures) (nothing_in_memory c.args.datanodes c.args.steps c.in_ok-sources.sources.items c.in_ok-sources.ensures c.requires.in_turn c.requires.within)

pub push_step-requires : goal.push_step-requires
push_step-requires g c =
    first_within c.args.datanodes (lanes_of_steps c.args.steps) c.in-Some.step c.next.new.self c.steps.sources.items
    (subst (λ l. Filling c.args.datanodes (lanes_of_steps c.args.steps) l c.steps.sources.items) c.in-Some.ensures.steps c.steps.invariant)

pub steps-preserved : goal.steps-preserved
steps-preserved g c =
    step_in_memory c.args.datanodes (lanes_of_steps c.args.steps) c.in-Some.step c.next.new.self c.steps.sources.items c.push_step.new.sources.items c.in_ok-push_step.ensures.ok c.in_ok-push_step.ensures.few
    (subst (λ l. Filling c.args.datanodes (lanes_of_steps c.args.steps) l c.steps.sources.items) c.in-Some.ensures.steps c.steps.invariant)
