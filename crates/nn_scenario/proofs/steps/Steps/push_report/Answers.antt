use Rattle.std.proofs.Common.{◌≡◌, ◌∙◌, ◌+◌, ◌++◌, ◌∷◌, [], sym, subst, ap, set, arith}
use Rattle.nn_scenario.specs.Steps.{with_report, IsCounted}
use Rattle.nn_scenario.specs.declared.steps.Step.TheVariants as step
use Rattle.nn_scenario.proofs.StepLemmas.{number_fits, next_counted, counted_next}
use Rattle.nn_scenario.proofs.steps.Steps.push_report.Goals as goal

pub overflow_add-number : goal.overflow_add-number
overflow_add-number c =
    let s = c.self.inside in
    let few = number_fits s.items s.sent.items s.datanodes c.args.report.dn c.from.result c.index.result.now
    c.requires c.self.invariant c.from.ensures c.index.ensures in
    omega (arith, few, c.len-recalled.ensures.bound)

pub invariant_of-self-2 : goal.invariant_of-self-2
invariant_of-self-2 c =
    let s = c.self.inside in
    let r = c.args.report in
    let x = c.index.result.now in
    let first : c.from.result ≡ c.from-2.result = c.from.ensures ∙ sym c.from-2.ensures in
    let counted = counted_next s.items s.sent.items s.datanodes r c.from.result x c.max-self-inside.result c.requires c.self.invariant
    c.from.ensures c.index.ensures c.max-self-inside.ensures in
    let next = next_counted s.items s.sent.items s.datanodes r c.from.result x c.requires c.self.invariant c.from.ensures c.index.ensures in
    let pushed : c.push_message.new.self ≡ with_report s.items r =
    c.in_ok-push_message.ensures.ok ∙ ap (λ m. s.items ++ step.Message m ∷ []) (c.message-next.ensures ∙ next) in
    subst (λ k. IsCounted c.push_message.new.self (set s.sent.items k (x + 1)) c.max-self-inside.result) first
    (subst (λ steps. IsCounted steps (set s.sent.items c.from.result (x + 1)) c.max-self-inside.result) (sym pushed) counted)
