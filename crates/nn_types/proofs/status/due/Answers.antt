use Rattle.std.proofs.Common.{rules}
use Rattle.nn_types.proofs.status.due.Goals as goal

pub returns-in-Named : goal.returns-in-Named
returns-in-Named c = search rules
