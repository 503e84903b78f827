use Rattle.std.proofs.Common.{◌≡◌, None, subst, sym, ◌∙◌}
use Rattle.nn_shadow.specs.contracts.shadow.Shadow.{the_view}
use Rattle.nn_shadow.specs.Contents.{Shadow, standby_of}
use Rattle.nn_shadow.specs.Refusals.{turn_refusal}
use Rattle.nn_shadow.proofs.Consistent.{stopped_at}
use Rattle.nn_shadow.proofs.shadow.Shadow.stop_refused.Goals as goal

pub invariant_of-self : goal.invariant_of-self
invariant_of-self c =
    let x = the_view c.self.inside in
    stopped_at x c.args.tx.now c.in-Some.fault c.self.invariant
    (subst (λ (y : Shadow). turn_refusal y.phase (standby_of y) c.args.tx.now ≡ None) (sym c.self.view_is) c.requires)
    (sym c.refusal.ensures ∙ c.in-Some.is)
