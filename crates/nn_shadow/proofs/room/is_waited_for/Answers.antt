use Rattle.std.proofs.Common.{sym, ◌∙◌}
use Rattle.nn_shadow.proofs.GivenBack.{none_above, next_tells}
use Rattle.nn_shadow.proofs.room.is_waited_for.Goals as goal

pub returns-in_default : goal.returns-in_default
returns-in_default c = sym (none_above c.args.block c.args.held.now c.in_default.ensures.next)

pub returns : goal.returns
returns c = c.eq.ensures ∙ next_tells c.args.block c.in-Some.next c.args.held.now c.in-Some.ensures.next
