use Rattle.std.proofs.Common.{rules}
use Rattle.nn_types.proofs.number.in_range.Goals as goal

pub returns : goal.returns
returns c = search rules
