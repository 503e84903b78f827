use Rattle.nn_tree.proofs.Descent.{never_refused, put_end}
use Rattle.nn_tree.proofs.tree.Tree.put.Goals as goal

pub unreachable-requires : goal.unreachable-requires
unreachable-requires c = never_refused c.args.self.now c.args.names.now c.requires c.in_default.ensures.refused

pub returns : goal.returns
returns c = put_end c.args.self.now c.change_at.new.self c.args.tree c.args.names.now c.in-Ok.ensures.changed
