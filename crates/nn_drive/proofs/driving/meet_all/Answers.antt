use Rattle.nn_drive.specs.Driven.{AreOneLane, EndsAgree}
use Rattle.nn_drive.proofs.Meets.{both_last, both_again}
use Rattle.nn_drive.proofs.driving.meet_all.Goals as goal

pub meet-met-requires : goal.meet-met-requires
meet-met-requires c = (both_last AreOneLane _ _ _ _ _ _ c.in-Some.ensures.items c.in-Some-pop.ensures.items c.loop-end.invariant.0).1

pub loop-end-preserved : goal.loop-end-preserved
loop-end-preserved c = let a = c.in-Some.ensures.items in let b = c.in-Some-pop.ensures.items in let m = c.meet-met.ensures in
    ((both_last AreOneLane _ _ _ _ _ _ a b c.loop-end.invariant.0).0, (λ h. c.loop-end.invariant.1 (both_again EndsAgree _ _ _ _ _ _ a b h (m.prefix, m.closed, m.told))))
