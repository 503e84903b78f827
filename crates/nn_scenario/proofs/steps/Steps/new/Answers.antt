use Rattle.std.proofs.Common.{sym, subst}
use Rattle.nn_scenario.specs.Steps.{IsCounted}
use Rattle.nn_scenario.proofs.StepLemmas.{nothing_counted}
use Rattle.nn_scenario.proofs.steps.Steps.new.Goals as goal

pub invariant_of-result : goal.invariant_of-result
invariant_of-result c = subst (λ steps. IsCounted steps c.in_ok-sent.sent.items 1) (sym c.new.ensures) (nothing_counted _ c.in_ok-sent.ensures)
