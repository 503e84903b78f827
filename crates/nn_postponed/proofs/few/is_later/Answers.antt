use Rattle.std.proofs.Common.{arith, ◌∙◌, sym}
use Rattle.nn_postponed.specs.Release.{same_source}
use Rattle.nn_postponed.proofs.few.is_later.Goals as goal
use Rattle.nn_postponed.proofs.Passes.{found_before, passed_hole, passed_other}

pub loop-place-preserved-in_default : goal.loop-place-preserved-in_default
loop-place-preserved-in_default c = passed_hole (same_source c.args.m.now) c.args.messages.now c.loop-place.place _
    (omega (arith, c.requires, c.loop-place-test.true)) c.loop-place.invariant c.in_default.is

pub returns-then-same_source : goal.returns-then-same_source
returns-then-same_source c = found_before (same_source c.args.m.now) c.args.messages.now c.loop-place.place c.args.end _ c.in-Some.other
    c.loop-place-test.true c.requires c.in-Some.is (sym c.same_source.ensures ∙ c.if-same_source.true)

pub loop-place-preserved : goal.loop-place-preserved
loop-place-preserved c = passed_other (same_source c.args.m.now) c.args.messages.now c.loop-place.place _
    (omega (arith, c.requires, c.loop-place-test.true)) c.loop-place.invariant c.in-Some.other c.in-Some.is (sym c.same_source.ensures ∙ c.if-same_source.false)
