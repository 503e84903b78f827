use Rattle.std.proofs.Common.{[]}
use Rattle.nn_live.proofs.Cutting.{nothing_torn}
use Rattle.nn_live.proofs.live.Live.of.Goals as goal

pub invariant_of-result : goal.invariant_of-result
invariant_of-result c = ([], nothing_torn c.none.result c.none.ensures)

pub returns-clause-torn : goal.returns-clause-torn
returns-clause-torn c = nothing_torn c.none.result c.none.ensures
