use Rattle.nn_postponed.specs.Release.{due_at}
use Rattle.nn_postponed.proofs.few.Few.free_place.Goals as goal
use Rattle.nn_postponed.proofs.NoHoles.{never_hole, more_wait, free_place}

pub unreachable-requires : goal.unreachable-requires
unreachable-requires c =
    never_hole c.self.inside.messages.items c.as_slice-messages.result.now c.args.self.now c.loop-place.place c.self.invariant c.self.view_is c.as_slice-messages.ensures.value c.loop-place-test.true _ c.in_default.is

pub returns-then-not-waits-clause-free : goal.returns-then-not-waits-clause-free
returns-then-not-waits-clause-free c =
    free_place c.self.inside.messages.items c.as_slice-messages.result.now c.args.self.now c.loop-place.place c.self.invariant c.self.view_is c.as_slice-messages.ensures.value c.loop-place-test.true
    (due_at c.args.block c.args.status) _ c.in-Some.message c.in-Some.is c.waits.result c.waits.ensures c.loop-place.invariant c.if-not-waits.true

pub loop-place-preserved : goal.loop-place-preserved
loop-place-preserved c =
    more_wait c.self.inside.messages.items c.as_slice-messages.result.now c.args.self.now c.loop-place.place c.self.invariant c.self.view_is c.as_slice-messages.ensures.value c.loop-place-test.true
    (due_at c.args.block c.args.status) _ c.in-Some.message c.in-Some.is c.waits.result c.waits.ensures c.loop-place.invariant c.if-not-waits.false
