use Rattle.std.proofs.Common.{rules}
use Rattle.nn_tree.proofs.issued.Issued.may_hold.Goals as goal

pub returns-then-contains : goal.returns-then-contains
returns-then-contains c = search rules

pub returns : goal.returns
returns c = search rules
