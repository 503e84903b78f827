use Rattle.std.proofs.Common.{rules}
use Rattle.nn_tree.proofs.issued.Issued.set_profile.Goals as goal

pub returns : goal.returns
returns c = search rules
