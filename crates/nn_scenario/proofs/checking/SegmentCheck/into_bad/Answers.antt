use Rattle.std.proofs.Common.{◌+◌, ◌++◌, ◌∙◌, ap, sym, subst}
use Rattle.nn_scenario.specs.Checking.{SegmentCheck, or_bad, AreSegments, IsCheckOf}
use Rattle.nn_scenario.specs.Cut.{last_part}
use Rattle.nn_scenario.proofs.CheckLemmas.{some_in_hand}
use Rattle.nn_scenario.proofs.checking.SegmentCheck.into_bad.Goals as goal

pub returns : goal.returns
returns c = λ x h.
    let i = c.self.inside in
    let k : SegmentCheck = record { room = i.room; lines = i.lines; profile = i.profile; next = i.next; order = i.order; inside = i.inside; ended = i.ended; bad = i.bad } in
    subst (AreSegments (x.parts ++ last_part x.in_hand)) (sym (c.or_bad.ensures ∙ ap (λ f. or_bad i.bad f (i.ended + 1)) c.part_fault.ensures))
    (some_in_hand x k c.if-self-eq0.false (subst (IsCheckOf x) (sym c.self.view_is) h))
