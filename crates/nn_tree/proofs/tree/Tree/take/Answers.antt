use Rattle.nn_tree.proofs.Step.{nothing_taken}
use Rattle.nn_tree.proofs.Descent.{free_end, taken_end}
use Rattle.nn_tree.proofs.tree.Tree.take.Goals as goal

pub returns-in_default-clause-taken : goal.returns-in_default-clause-taken
returns-in_default-clause-taken c = free_end c.args.self.now c.args.names.now c.in_default.ensures.refused

pub returns-in_default-clause-gone : goal.returns-in_default-clause-gone
returns-in_default-clause-gone c = nothing_taken c.args.self.now c.change_at.new.self c.args.names.now c.in_default.ensures.same (free_end c.args.self.now c.args.names.now c.in_default.ensures.refused)

pub returns-clause-walked : goal.returns-clause-walked
returns-clause-walked c = (taken_end c.args.self.now c.change_at.new.self c.in-Ok.tree c.args.names.now c.in-Ok.ensures.changed).0

pub returns-clause-taken : goal.returns-clause-taken
returns-clause-taken c = (taken_end c.args.self.now c.change_at.new.self c.in-Ok.tree c.args.names.now c.in-Ok.ensures.changed).1

pub returns-clause-gone : goal.returns-clause-gone
returns-clause-gone c = (taken_end c.args.self.now c.change_at.new.self c.in-Ok.tree c.args.names.now c.in-Ok.ensures.changed).2
