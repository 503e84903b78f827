use Rattle.nn_tree.specs.Changes.{GetsBlock}
use Rattle.nn_tree.proofs.Walk.{if_ok}
use Rattle.nn_tree.proofs.Descent.{file_changed}
use Rattle.nn_tree.proofs.tree.Tree.push_block.Goals as goal

pub returns-clause-ok : goal.returns-clause-ok
returns-clause-ok c = if_ok c.change_at.result (λ done. file_changed c.args.self.now c.change_at.new.self c.args.names.now (GetsBlock c.args.block done)) c.change_at.ensures.changed
