use Rattle.std.proofs.Common.{◌∙◌, ap}
use Rattle.nn_tree.specs.Walks.{mkdir_fault}
use Rattle.nn_tree.proofs.Bridge.{looks}
use Rattle.nn_tree.proofs.namespace.Namespace.mkdir_refusal.Goals as goal

pub returns : goal.returns
returns c =
    c.mkdir_refusal.ensures
    ∙ (λ j. mkdir_fault (looks c.self.inside.root c.args.self.now (ap (λ n. n.rows) c.self.view_is) j) (c.names.ensures.names j))
