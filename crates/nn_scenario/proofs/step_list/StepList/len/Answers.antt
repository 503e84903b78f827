use Rattle.std.proofs.Common.{◌∙◌, sym, ap, length, arith}
use Rattle.nn_scenario.proofs.StepLists.{told_length}
use Rattle.nn_scenario.proofs.step_list.StepList.len.Goals as goal

pub returns-clause-value : goal.returns-clause-value
returns-clause-value c =
    let s = c.self.inside in
    let as_many = ap length (sym c.self.view_is) ∙ told_length s.kinds.items s.messages.items c.self.invariant in
    omega (arith, as_many, c.len.ensures, s.kinds.ok.0, s.kinds.ok.1, s.kinds.small)

pub returns-clause-bound : goal.returns-clause-bound
returns-clause-bound c =
    let s = c.self.inside in
    let as_many = ap length (sym c.self.view_is) ∙ told_length s.kinds.items s.messages.items c.self.invariant in
    omega (arith, as_many, s.kinds.ok.0, s.kinds.ok.1, s.kinds.small)
