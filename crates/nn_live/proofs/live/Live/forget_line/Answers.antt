use Rattle.std.proofs.Common.{[]}
use Rattle.nn_live.proofs.Cutting.{nothing_torn}
use Rattle.nn_live.proofs.live.Live.forget_line.Goals as goal

pub invariant_of-self : goal.invariant_of-self
invariant_of-self c = ([], nothing_torn c.clear.new.self c.clear.ensures)

pub returns-clause-torn : goal.returns-clause-torn
returns-clause-torn c = nothing_torn c.clear.new.self c.clear.ensures
