use Rattle.std.proofs.Common.{ap, ◌-◌, ◌∙◌}
use Rattle.nn_model.specs.Items.{NodeState}
use Rattle.nn_shadow.proofs.Havings.{having_at}
use Rattle.nn_shadow.proofs.shadow.report_in.Goals as goal

pub returns : goal.returns
returns c =
    c.begun.ensures
    ∙ ap (λ (h : NodeState). h.begun) (having_at c.args.had.now c.args.dn (c.from.result - 1) c.in-Some.had.now c.if-dn-eq0.false (ap (λ n. n - 1) c.from.ensures) c.in-Some.ensures.lookup.3.1)
