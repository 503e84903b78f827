use Rattle.std.proofs.Common.{None, Some, List, sym, subst, ◌∙◌}
use Rattle.nn_scenario.specs.Checking.{AreSegments}
use Rattle.nn_scenario.specs.Cut.{Part}
use Rattle.nn_live.specs.Serving.{HasRead}
use Rattle.nn_live.proofs.SegmentInHand.{is_bad, is_good}
use Rattle.nn_live.proofs.in_hand.SegmentInHand.into_txs.Goals as goal

pub returns-in-Some : goal.returns-in-Some
returns-in-Some c = λ read part reads all.
    let has = subst (HasRead read part) (sym c.self.view_is) reads in
    is_bad part c.in-Some.bad (subst (λ (ps : List Part). AreSegments ps (Some c.in-Some.bad)) all (c.in-Some.ensures read has.check))

pub returns-in-None : goal.returns-in-None
returns-in-None c = λ read part reads all.
    let has = subst (HasRead read part) (sym c.self.view_is) reads in
    let good = is_good part (subst (λ (ps : List Part). AreSegments ps None) all (c.in-None.ensures read has.check)) in
    (good.0, good.1, good.2, good.3 ∙ sym (has.whole good.4))
