use Rattle.std.proofs.Common.{rules, refl}
use borrow.Author.Tests.{tests}
use Rattle.nn_types.specs.Fault.{fault_name}
use Rattle.nn_types.proofs.fault.of_input.Goals as goal

pub returns-in-29 : goal.returns-in-29
unfolding fault_name
returns-in-29 c = rw c.in-29.is refl

pub returns-in_default : goal.returns-in_default
unfolding fault_name
returns-in_default c = search (tests, rules)
