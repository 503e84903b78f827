use Rattle.nn_tree.specs.Changes.{GetsReplication}
use Rattle.nn_tree.proofs.Walk.{if_ok}
use Rattle.nn_tree.proofs.Step.{on_err}
use Rattle.nn_tree.proofs.Descent.{file_changed, no_file_end}
use Rattle.nn_tree.proofs.tree.Tree.set_replication.Goals as goal

pub returns-clause-ok : goal.returns-clause-ok
returns-clause-ok c = if_ok c.change_at.result (λ done. file_changed c.args.self.now c.change_at.new.self c.args.names.now (GetsReplication c.args.replication)) c.change_at.ensures.changed

pub returns-clause-no_file : goal.returns-clause-no_file
returns-clause-no_file c = on_err c.change_at.result (no_file_end c.args.self.now c.args.names.now) c.change_at.ensures.refused
