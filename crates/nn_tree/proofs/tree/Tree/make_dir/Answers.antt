use Rattle.std.proofs.Common.{[], ◌∷◌}
use Rattle.nn_model.specs.declared.form.Form.TheVariants.{Dir}
use Rattle.nn_tree.proofs.Walk.{ok_then}
use Rattle.nn_tree.proofs.Descent.{made_end}
use Rattle.nn_tree.proofs.tree.Tree.make_dir.Goals as goal

pub returns-clause-ok : goal.returns-clause-ok
returns-clause-ok c = ok_then c.change_at.result (λ given. made_end c.args.self.now c.change_at.new.self (([], Dir) ∷ []) c.args.names.now) c.change_at.ensures.changed
