use Rattle.std.proofs.Common.{Err, refl, subst, sym, ◌≡◌, ap, ◌∙◌, true, false, true≢false, List, [], Bool}
use Rattle.std.proofs.lemmas.Result.{err_from_is_err_and}
use Rattle.std.specs.List.{list_all}
use Rattle.nn_lane.specs.Ends.{LaneEnd}
use Rattle.nn_lane_standby.specs.LaneSteps.{is_closed_lane}
use Rattle.nn_lane_standby.specs.contracts.standby.Standby.{the_view}
use Rattle.nn_lane_standby.specs.Tailing.{has_begun, Standby, Keeps}
use Rattle.nn_lane_standby.specs.declared.fault.PromoteFault.TheVariants as promote_fault
use Rattle.nn_lane_standby.specs.declared.fault.StepFault.TheVariants as fault
use Rattle.nn_lane_standby.proofs.Refusing.{promoted_first, stop_first, open_first, promoted_begun, resumes, promotion_goes}
use Rattle.nn_lane_standby.proofs.Prepared.{promote_refused, promote_unready, promote_finished, promote_resumed, stops_for}
use Rattle.nn_lane_standby.proofs.Carried.{carries_same}
use Rattle.nn_lane_standby.proofs.standby.Standby.promote.Goals as goal

pub returns-then-self-clause-promotes : goal.returns-then-self-clause-promotes
returns-then-self-clause-promotes g c =
    let a = sym (ap (λ z. z.active) c.self.view_is) ∙ c.if-self.true in
    promote_refused g.S.SegmentSource.gives c.args.source.now c.args.self.now promote_fault.AlreadyActive (a, promoted_begun c.args.self.now (subst Keeps c.self.view_is c.self.invariant) a, refl, refl)

pub returns-then-is_active-clause-promotes : goal.returns-then-is_active-clause-promotes
returns-then-is_active-clause-promotes g c =
    promote_resumed g.S.SegmentSource.gives c.args.source.now c.args.self.now c.finish.new.self c.finish.result (sym (ap (λ z. has_begun z) c.self.view_is) ∙ sym c.is_active.ensures ∙ c.if-is_active.true) c.finish.ensures

pub returns-in-Some-clause-promotes : goal.returns-in-Some-clause-promotes
returns-in-Some-clause-promotes g c =
    let k = subst Keeps c.self.view_is c.self.invariant in
    let e = sym (ap (λ z. z.stop) c.self.view_is) ∙ c.in-Some.is in
    promote_refused g.S.SegmentSource.gives c.args.source.now c.args.self.now (promote_fault.Step (fault.Stopped c.in-Some.stop)) (refl, (e, k.stops c.in-Some.stop e), stops_for c.args.self.now c.args.self.now [] (fault.Stopped c.in-Some.stop) (carries_same c.args.self.now) (e, k.stops c.in-Some.stop e))

-- the lanes of the value
of_value : (x y : Standby) (es : List LaneEnd) (b : Bool) → x ≡ y → es ≡ x.ends → b ≡ list_all is_closed_lane es → list_all is_closed_lane y.ends ≡ b
of_value x y es b v e q = sym (q ∙ ap (list_all is_closed_lane) e ∙ ap (λ z. list_all is_closed_lane z.ends) v)

pub returns-then-not-are_closed-clause-promotes : goal.returns-then-not-are_closed-clause-promotes
returns-then-not-are_closed-clause-promotes g c =
    promote_refused g.S.SegmentSource.gives c.args.source.now c.args.self.now promote_fault.IntakeOpen
    (of_value (the_view c.self.inside) c.args.self.now c.as_slice.result.now false c.self.view_is c.as_slice.ensures.value c.if-not-are_closed.ensures, refl, refl)

pub prepare-requires-clause-closed : goal.prepare-requires-clause-closed
prepare-requires-clause-closed g c =
    of_value (the_view c.self.inside) c.args.self.now c.as_slice.result.now true c.self.view_is c.as_slice.ensures.value c.if-not-are_closed.ensures

pub returns-in_err-prepare-clause-promotes : goal.returns-in_err-prepare-clause-promotes
returns-in_err-prepare-clause-promotes g c =
    let q = c.in_err-prepare.ensures.prepares in
    let k = promote_unready g.S.SegmentSource.gives c.args.source.now c.prepare.new.source c.args.self.now c.prepare.new.self q.0 c.in_err-prepare.field-0.0 q.1 q.2 in
    let p = err_from_is_err_and c.from_residual.result c.from_residual.ensures.1 in rw (p.1, p.2) k

pub returns-in_err-prepare-clause-failed : goal.returns-in_err-prepare-clause-failed
returns-in_err-prepare-clause-failed g c =
    let p = err_from_is_err_and c.from_residual.result c.from_residual.ensures.1 in rw (p.1, p.2) c.in_err-prepare.ensures.failed

pub returns-clause-promotes : goal.returns-clause-promotes
returns-clause-promotes g c =
    let q = c.in_ok-prepare.ensures.prepares in
    promote_finished g.S.SegmentSource.gives c.args.source.now c.prepare.new.source c.args.self.now c.prepare.new.self c.finish-2.new.self q.0 c.finish-2.result
    (sym (ap (λ z. has_begun z) c.self.view_is) ∙ sym c.is_active.ensures ∙ c.if-is_active.false) (sym (ap (λ z. z.active) c.self.view_is) ∙ c.if-self.false) q.1 q.2 c.finish-2.ensures

pub returns-then-self-clause-refused : goal.returns-then-self-clause-refused
returns-then-self-clause-refused g c = λ f e. (ap (λ z. Err z) (promoted_first c.args.self.now f (sym (ap (λ z. z.active) c.self.view_is) ∙ c.if-self.true) e), refl)

pub returns-then-is_active-clause-refused : goal.returns-then-is_active-clause-refused
returns-then-is_active-clause-refused g c = λ f e.
    resumes c.args.self.now f (subst Keeps c.self.view_is c.self.invariant) (sym (ap (λ z. z.active) c.self.view_is) ∙ c.if-self.false)
    (sym (ap (λ z. has_begun z) c.self.view_is) ∙ sym c.is_active.ensures ∙ c.if-is_active.true) e

pub returns-in-Some-clause-refused : goal.returns-in-Some-clause-refused
returns-in-Some-clause-refused g c = λ f e. (
  ap (λ z. Err z) (stop_first c.args.self.now f c.in-Some.stop (sym (ap (λ z. z.active) c.self.view_is) ∙ c.if-self.false) (sym (ap (λ z. z.stop) c.self.view_is) ∙ c.in-Some.is) e),
  refl,
)

pub returns-then-not-are_closed-clause-refused : goal.returns-then-not-are_closed-clause-refused
returns-then-not-are_closed-clause-refused g c = λ f e. (
  ap (λ z. Err z) (open_first c.args.self.now f (sym (ap (λ z. z.active) c.self.view_is) ∙ c.if-self.false) (sym (ap (λ z. z.stop) c.self.view_is) ∙ c.in_default.is) (sym (ap (λ z. has_begun z) c.self.view_is) ∙ sym c.is_active.ensures ∙ c.if-is_active.false)
      (of_value (the_view c.self.inside) c.args.self.now c.as_slice.result.now false c.self.view_is c.as_slice.ensures.value c.if-not-are_closed.ensures) e),
  refl,
)

pub returns-in_err-prepare-clause-refused : goal.returns-in_err-prepare-clause-refused
returns-in_err-prepare-clause-refused g c = λ f e.
    promotion_goes c.args.self.now f (sym (ap (λ z. z.active) c.self.view_is) ∙ c.if-self.false) (sym (ap (λ z. z.stop) c.self.view_is) ∙ c.in_default.is) (sym (ap (λ z. has_begun z) c.self.view_is) ∙ sym c.is_active.ensures ∙ c.if-is_active.false)
    (of_value (the_view c.self.inside) c.args.self.now c.as_slice.result.now true c.self.view_is c.as_slice.ensures.value c.if-not-are_closed.ensures) e

pub returns-clause-refused : goal.returns-clause-refused
returns-clause-refused g c = λ f e.
    promotion_goes c.args.self.now f (sym (ap (λ z. z.active) c.self.view_is) ∙ c.if-self.false) (sym (ap (λ z. z.stop) c.self.view_is) ∙ c.in_default.is) (sym (ap (λ z. has_begun z) c.self.view_is) ∙ sym c.is_active.ensures ∙ c.if-is_active.false)
    (of_value (the_view c.self.inside) c.args.self.now c.as_slice.result.now true c.self.view_is c.as_slice.ensures.value c.if-not-are_closed.ensures) e

pub returns-in_err-prepare-clause-unasked : goal.returns-in_err-prepare-clause-unasked
returns-in_err-prepare-clause-unasked g c = λ begun.
    absurd (true≢false (sym begun ∙ sym (ap (λ z. has_begun z) c.self.view_is) ∙ sym c.is_active.ensures ∙ c.if-is_active.false))

pub returns-clause-unasked : goal.returns-clause-unasked
returns-clause-unasked g c = λ begun.
    absurd (true≢false (sym begun ∙ sym (ap (λ z. has_begun z) c.self.view_is) ∙ sym c.is_active.ensures ∙ c.if-is_active.false))
