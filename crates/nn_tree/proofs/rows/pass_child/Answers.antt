use Rattle.std.proofs.Common.{refl}
use Rattle.nn_tree.proofs.Nested.{past_first, past_last}
use Rattle.nn_tree.proofs.rows.pass_child.Goals as goal

pub returns-then-advance-clause-items : goal.returns-then-advance-clause-items
returns-then-advance-clause-items c prefix dir split =
    past_first c.args.dirs.now.items prefix c.args.dirs.now.len c.in-Some.dir.now dir c.in-Some.ensures.value c.args.dirs.now.ok.0 split c.advance.new.self (c.if-advance.ensures.more refl)

pub returns-clause-items : goal.returns-clause-items
returns-clause-items c prefix dir split =
    past_last c.args.dirs.now.items prefix c.args.dirs.now.len c.in-Some.dir.now dir c.in-Some.ensures.value c.args.dirs.now.ok.0 split
    (record { depth = c.in-Some.dir.now.depth; children = c.advance.new.self }) c.pop.new.self.items (c.if-advance.ensures.last refl) c.pop.ensures.rest
