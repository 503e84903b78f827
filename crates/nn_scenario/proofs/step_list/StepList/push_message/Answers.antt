use Rattle.std.proofs.Common.{◌∙◌, ◌++◌, ◌∷◌, [], true, sym, ap, ap₂, subst}
use Rattle.nn_scenario.specs.StepList.{told, AreTold}
use Rattle.nn_scenario.specs.declared.steps.Step.TheVariants as step
use Rattle.nn_scenario.proofs.StepLists.{message_told}
use Rattle.nn_scenario.proofs.step_list.StepList.push_message.Goals as goal

pub invariant_of-self-in_default : goal.invariant_of-self-in_default
invariant_of-self-in_default c =
    let s = c.self.inside in
    let one_more = message_told s.kinds.items s.messages.items c.args.message c.self.invariant in
    subst (λ kinds. AreTold kinds c.push.new.self.items) (sym c.in_default.ensures.items)
    (subst (λ ms. AreTold (s.kinds.items ++ true ∷ []) ms) (sym c.in_ok-push.ensures.items) one_more.0)

pub returns-clause-ok : goal.returns-clause-ok
returns-clause-ok c =
    let s = c.self.inside in
    ap₂ told c.in_default.ensures.items c.in_ok-push.ensures.items
    ∙ (message_told s.kinds.items s.messages.items c.args.message c.self.invariant).1
    ∙ ap (λ steps. steps ++ step.Message c.args.message ∷ []) c.self.view_is
