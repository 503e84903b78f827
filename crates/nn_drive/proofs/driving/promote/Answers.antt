use Rattle.std.proofs.Common.{◌≡◌, ◌<◌, true, false, Err, sym, ◌∙◌, subst}
use Rattle.nn_lane_standby.specs.Promotion.{NotPromoted, OnPromoteLogFault}
use Rattle.nn_lane_standby.specs.declared.fault.PromoteFault.{PromoteFault}
use Rattle.nn_drive.proofs.Steps.{begun_or_not, promotion_may_come, ends_as}
use Rattle.nn_drive.proofs.driving.promote.Goals as goal

pub returns-in-Ok-clause-ok : goal.returns-in-Ok-clause-ok
returns-in-Ok-clause-ok g c = let p = c.in-Ok.ensures.promotes in (p.0, p.1, p.3, (p.4.1, p.4.2), p.4.3, c.in-Ok.ensures.counted, p.5, p.4.4 c.requires.serving)

pub fault_of-requires : goal.fault_of-requires
fault_of-requires g c =
    let p = c.in-Err.ensures.promotes in
    promotion_may_come p.0 c.promote.new.self c.in-Step.fault (subst (NotPromoted c.args.standby.now p.0 c.promote.new.self) c.in-Step.is p.4).1

pub returns-in-Step-clause-err : goal.returns-in-Step-clause-err
returns-in-Step-clause-err g c =
    let p = c.in-Err.ensures.promotes in
    let failures = g.T.SegmentSource.failures in
    let why = subst (NotPromoted c.args.standby.now p.0 c.promote.new.self) c.in-Step.is p.4 in
    let failed = subst (λ (f : PromoteFault). OnPromoteLogFault (Err f) (failures c.args.source.now < failures c.promote.new.source)) c.in-Step.is c.in-Err.ensures.failed in
    (p.0, p.1, ends_as g.T.SegmentSource.gives failures (Unit {0}) c.args.source.now c.promote.new.source c.args.standby.now p.0 c.in-Step.fault c.fault_of.result why.2 failed c.fault_of.ensures, c.in-Err.ensures.counted)

-- a promotion that fails leaves the lanes, and the standby not promoted
pub returns-in-Step-clause-stayed : goal.returns-in-Step-clause-stayed
returns-in-Step-clause-stayed g c =
    let p = c.in-Err.ensures.promotes in
    let why = subst (NotPromoted c.args.standby.now p.0 c.promote.new.self) c.in-Step.is p.4 in
    (p.0, p.1, record { carries = p.2; same_ends = p.3; active = why.0; settings = p.5 })

pub unreachable-requires : goal.unreachable-requires
unreachable-requires g c =
    let p = c.in-Err.ensures.promotes in
    begun_or_not c.args.standby.now c.requires.serving (subst (NotPromoted c.args.standby.now p.0 c.promote.new.self) c.in-AlreadyActive.is p.4).1

pub unreachable-requires-in-IntakeOpen : goal.unreachable-requires-in-IntakeOpen
unreachable-requires-in-IntakeOpen g c =
    let p = c.in-Err.ensures.promotes in
    let not_closed = (subst (NotPromoted c.args.standby.now p.0 c.promote.new.self) c.in-IntakeOpen.is p.4).0 in
    let w : true ≡ false = sym c.requires.closed ∙ not_closed in cc
