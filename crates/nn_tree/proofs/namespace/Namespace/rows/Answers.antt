use Rattle.std.proofs.Common.{sym, ap, ◌∙◌}
use Rattle.nn_tree.proofs.Listings.{in_order_already}
use Rattle.nn_tree.proofs.namespace.Namespace.rows.Goals as goal

pub returns-clause-left : goal.returns-clause-left
returns-clause-left c = c.new.ensures.left ∙ sym (in_order_already c.self.inside.root c.recall_invariant.ensures) ∙ ap (λ n. n.rows) c.self.view_is
