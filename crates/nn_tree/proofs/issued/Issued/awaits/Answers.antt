use Rattle.std.proofs.Common.{ap, ◌∙◌}
use Rattle.nn_model.specs.Apply.{has_id}
use Rattle.nn_tree.proofs.Waiting.{has_is}
use Rattle.nn_tree.proofs.issued.Issued.awaits.Goals as goal

pub returns : goal.returns
returns c =
    c.contains.ensures ∙ has_is c.self.inside.awaiting.keys c.args.id ∙ ap (λ i. has_id i.awaiting c.args.id) c.self.view_is
