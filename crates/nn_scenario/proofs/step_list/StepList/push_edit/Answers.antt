use Rattle.std.proofs.Common.{◌∙◌, ◌++◌, ◌∷◌, [], sym, ap, subst}
use Rattle.nn_scenario.specs.StepList.{told, AreTold}
use Rattle.nn_scenario.specs.declared.steps.Step.TheVariants as step
use Rattle.nn_scenario.proofs.StepLists.{edit_told}
use Rattle.nn_scenario.proofs.step_list.StepList.push_edit.Goals as goal

pub invariant_of-self-2 : goal.invariant_of-self-2
invariant_of-self-2 c =
    let s = c.self.inside in
    subst (λ kinds. AreTold kinds s.messages.items) (sym c.in_ok-push.ensures.items) (edit_told s.kinds.items s.messages.items c.self.invariant).0

pub returns-clause-ok : goal.returns-clause-ok
returns-clause-ok c =
    let s = c.self.inside in
    ap (λ kinds. told kinds s.messages.items) c.in_ok-push.ensures.items
    ∙ (edit_told s.kinds.items s.messages.items c.self.invariant).1
    ∙ ap (λ steps. steps ++ step.Edit ∷ []) c.self.view_is
