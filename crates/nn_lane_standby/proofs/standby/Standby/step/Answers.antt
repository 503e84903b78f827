use Rattle.std.proofs.Common.{◌≡◌, Some, Err, refl, subst, sym, ap, ◌∙◌, inl}
use Rattle.nn_lane_standby.specs.Refusals.{step_refusal}
use Rattle.nn_lane_standby.specs.declared.standby.Choice.{Choice}
use Rattle.nn_lane_standby.specs.Tailing.{has_begun, Keeps}
use Rattle.nn_lane_standby.specs.declared.fault.StepFault.TheVariants as fault
use Rattle.nn_lane_standby.proofs.Refusing.{active_first, stopped_first, edit_goes, lane_goes, no_lane}
use Rattle.nn_lane_standby.proofs.Stepping.{step_refused, edit_steps, lane_steps}
use Rattle.nn_lane_standby.proofs.standby.Standby.step.Goals as goal

pub returns-then-is_active-clause-steps : goal.returns-then-is_active-clause-steps
returns-then-is_active-clause-steps g c =
    step_refused g.S.SegmentSource.gives c.args.source.now c.args.self.now c.args.choice fault.AlreadyActive (sym (ap (λ z. has_begun z) c.self.view_is) ∙ sym c.is_active.ensures ∙ c.if-is_active.true, refl, refl)

pub returns-in-Some-clause-steps : goal.returns-in-Some-clause-steps
returns-in-Some-clause-steps g c =
    let k = subst Keeps c.self.view_is c.self.invariant in
    let e = sym (ap (λ z. z.stop) c.self.view_is) ∙ c.in-Some.is in
    step_refused g.S.SegmentSource.gives c.args.source.now c.args.self.now c.args.choice (fault.Stopped c.in-Some.stop) (inl (k.stops c.in-Some.stop e, (e, refl, refl)))

pub returns-in-Edit-clause-steps : goal.returns-in-Edit-clause-steps
returns-in-Edit-clause-steps g c =
    edit_steps g.S.SegmentSource.gives c.args.source.now c.step_edit.new.source c.args.self.now c.step_edit.new.self c.args.choice c.step_edit.result c.in-Edit.is c.step_edit.ensures.edits

pub returns-in-Some-place-clause-steps : goal.returns-in-Some-place-clause-steps
returns-in-Some-place-clause-steps g c =
    lane_steps g.S.SegmentSource.gives c.args.source.now c.args.self.now c.step_at.new.self c.args.choice c.in-Lane.dn c.in-Some-place.i c.step_at.result c.in-Lane.is c.in-Some-place.ensures c.step_at.ensures.frame c.step_at.ensures.moves

pub returns-in-None-clause-steps : goal.returns-in-None-clause-steps
returns-in-None-clause-steps g c =
    step_refused g.S.SegmentSource.gives c.args.source.now c.args.self.now c.args.choice fault.BadLane (c.in-Lane.dn, c.in-Lane.is, c.in-None.ensures, refl, refl)

pub returns-then-is_active-clause-refused : goal.returns-then-is_active-clause-refused
returns-then-is_active-clause-refused g c = λ f e. (ap (λ z. Err z) (active_first c.args.self.now c.args.choice f (sym (ap (λ z. has_begun z) c.self.view_is) ∙ sym c.is_active.ensures ∙ c.if-is_active.true) e), refl)

pub returns-in-Some-clause-refused : goal.returns-in-Some-clause-refused
returns-in-Some-clause-refused g c = λ f e. (
  ap (λ z. Err z) (stopped_first c.args.self.now c.args.choice f c.in-Some.stop (sym (ap (λ z. has_begun z) c.self.view_is) ∙ sym c.is_active.ensures ∙ c.if-is_active.false) (sym (ap (λ z. z.stop) c.self.view_is) ∙ c.in-Some.is) e),
  refl,
)

pub returns-in-Edit-clause-refused : goal.returns-in-Edit-clause-refused
returns-in-Edit-clause-refused g c = λ f e.
    edit_goes c.args.self.now f (sym (ap (λ z. has_begun z) c.self.view_is) ∙ sym c.is_active.ensures ∙ c.if-is_active.false) (sym (ap (λ z. z.stop) c.self.view_is) ∙ c.in_default.is) (subst (λ (z : Choice). step_refusal c.args.self.now z ≡ Some f) c.in-Edit.is e)

pub returns-in-Some-place-clause-refused : goal.returns-in-Some-place-clause-refused
returns-in-Some-place-clause-refused g c = λ f e.
    lane_goes c.args.self.now f c.in-Lane.dn c.in-Some-place.i (sym (ap (λ z. has_begun z) c.self.view_is) ∙ sym c.is_active.ensures ∙ c.if-is_active.false) (sym (ap (λ z. z.stop) c.self.view_is) ∙ c.in_default.is) c.in-Some-place.ensures (subst (λ (z : Choice). step_refusal c.args.self.now z ≡ Some f) c.in-Lane.is e)

pub returns-in-None-clause-refused : goal.returns-in-None-clause-refused
returns-in-None-clause-refused g c = λ f e. (
  ap (λ z. Err z) (no_lane c.args.self.now f c.in-Lane.dn (sym (ap (λ z. has_begun z) c.self.view_is) ∙ sym c.is_active.ensures ∙ c.if-is_active.false) (sym (ap (λ z. z.stop) c.self.view_is) ∙ c.in_default.is) c.in-None.ensures (subst (λ (z : Choice). step_refusal c.args.self.now z ≡ Some f) c.in-Lane.is e)),
  refl,
)
