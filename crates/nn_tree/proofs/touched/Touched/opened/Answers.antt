use Rattle.std.proofs.Common.{rules}
use Rattle.nn_tree.proofs.touched.Touched.opened.Goals as goal

pub returns : goal.returns
returns c = search rules
