use Rattle.std.proofs.Common.{rules}
use Rattle.nn_tree.proofs.tree.files.open_closed.Goals as goal

pub returns-clause-ok : goal.returns-clause-ok
returns-clause-ok c = search rules
