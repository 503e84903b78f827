use Rattle.std.proofs.Common.{arith, ◌∙◌, sym}
use Rattle.nn_postponed.specs.Queues.{is_from}
use Rattle.nn_postponed.proofs.few.has_from.Goals as goal
use Rattle.nn_postponed.proofs.Passes.{passed_hole, passed_other}
use Rattle.nn_postponed.proofs.NoHoles.{found_one, found_none}

pub loop-place-preserved-in_default : goal.loop-place-preserved-in_default
loop-place-preserved-in_default c = passed_hole (is_from c.args.dn c.args.block) c.args.messages.now c.loop-place.place _
    (omega (arith, c.loop-place-test.true)) c.loop-place.invariant c.in_default.is

pub returns-then-is_from : goal.returns-then-is_from
returns-then-is_from c = found_one (is_from c.args.dn c.args.block) c.args.messages.now c.loop-place.place _ c.in-Some.m
    (omega (arith, c.loop-place-test.true)) c.in-Some.is (sym c.is_from.ensures ∙ c.if-is_from.true)

pub loop-place-preserved : goal.loop-place-preserved
loop-place-preserved c = passed_other (is_from c.args.dn c.args.block) c.args.messages.now c.loop-place.place _
    (omega (arith, c.loop-place-test.true)) c.loop-place.invariant c.in-Some.m c.in-Some.is (sym c.is_from.ensures ∙ c.if-is_from.false)

pub returns : goal.returns
returns c = found_none (is_from c.args.dn c.args.block) c.args.messages.now c.loop-place.place
    (omega (arith, c.loop-place-test.false, c.loop-place.auto.place-end)) c.loop-place.invariant
