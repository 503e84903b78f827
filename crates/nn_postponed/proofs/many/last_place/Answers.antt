use Rattle.std.proofs.Common.{arith, ◌≡◌, ◌-◌, Option, Some, None, true, is_some, refl, ◌∙◌}
use Rattle.nn_types.specs.declared.report.Message.{Message}
use Rattle.nn_postponed.proofs.many.last_place.Goals as goal
use Rattle.nn_postponed.proofs.Links.{slot_is}

some_is : (o : Option Message) → true ≡ is_some o → (m : Message) × (o ≡ Some m)
some_is None is = absurd (cc)
some_is (Some m) is = (m, refl)

pub returns-then-is_some-clause-some : goal.returns-then-is_some-clause-some
returns-then-is_some-clause-some c =
    let some = some_is c.index-messages-end.result c.if-is_some.ensures in (
      some.0,
      record {
        there = slot_is c.args.messages.now (c.loop-end.end - 1) c.index-messages-end.result c.index-messages-end.result (omega (arith, c.loop-end-test.true, c.loop-end.invariant.low)) c.index-messages-end.is ∙ some.1;
        behind = λ q lt. c.loop-end.invariant.behind q (omega (arith, lt, c.loop-end-test.true));
      },
    )
