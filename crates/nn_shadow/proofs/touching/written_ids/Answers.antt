use Rattle.std.proofs.Common.{◌∙◌, ◌++◌, ap, inr}
use Rattle.nn_tree.proofs.Ascending.{sorted_is}
use Rattle.nn_model.specs.Touched.{ascending}
use Rattle.nn_shadow.specs.Touching.{written}
use Rattle.nn_shadow.proofs.touching.written_ids.Goals as goal

pub returns : goal.returns
returns c =
    inr (sorted_is c.push_written.new.ids.items c.sort_unstable.new.self.items c.sort_unstable.ensures.permutation c.sort_unstable.ensures.sorted
    ∙ ap ascending (c.in-Ok.ensures ∙ ap (λ xs. xs ++ written c.args.namespace.now c.args.edit.now) c.new-ids.ensures.items))
