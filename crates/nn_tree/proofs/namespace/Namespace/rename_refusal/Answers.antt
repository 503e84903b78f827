use Rattle.std.proofs.Common.{◌∙◌, ap}
use Rattle.nn_tree.specs.Walks.{rename_fault}
use Rattle.nn_tree.proofs.Bridge.{looks}
use Rattle.nn_tree.proofs.namespace.Namespace.rename_refusal.Goals as goal

pub returns : goal.returns
returns c =
    c.rename_refusal.ensures
    ∙ (λ j. rename_fault (looks c.self.inside.root c.args.self.now (ap (λ n. n.rows) c.self.view_is) j) (c.names.ensures.names j) (c.names-2.ensures.names j))
