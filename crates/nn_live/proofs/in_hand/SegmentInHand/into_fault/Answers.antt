use Rattle.std.proofs.Common.{None, Some, List, sym, subst}
use Rattle.nn_scenario.specs.Checking.{AreSegments}
use Rattle.nn_scenario.specs.Cut.{Part}
use Rattle.nn_live.specs.Serving.{HasPart, part_alone}
use Rattle.nn_live.proofs.SegmentInHand.{all_alone, has_no_mark, is_bad, is_good}
use Rattle.nn_live.proofs.in_hand.SegmentInHand.into_fault.Goals as goal

pub unreachable-requires : goal.unreachable-requires
unreachable-requires c =
    let part = c.requires.0 in
    let has = subst (HasPart part) (sym c.self.view_is) c.requires.1 in
    let all = subst (λ (ps : List Part). AreSegments ps None) (all_alone part c.args.self c.requires.1 c.requires.2) (c.in-None.ensures (part_alone part) has.check) in
    let good = is_good part all in
    has_no_mark part c.args.self c.requires.1 good.0 good.2 good.3

pub returns : goal.returns
returns c = λ part keeps.
    let has = subst (HasPart part) (sym c.self.view_is) keeps in
    is_bad part c.in-Some.bad (subst (λ (ps : List Part). AreSegments ps (Some c.in-Some.bad)) (all_alone part c.args.self keeps c.requires.2) (c.in-Some.ensures (part_alone part) has.check))
