use Rattle.std.proofs.Common.{sym, ap, subst}
use Rattle.std.specs.Map.{values_of}
use Rattle.nn_model.specs.Namespace.{Namespace}
use Rattle.nn_tree.specs.View.{seen}
use Rattle.nn_tree.specs.Blocks.{AreBlockRows}
use Rattle.nn_tree.proofs.Blocks.{are_blocks}
use Rattle.nn_tree.proofs.namespace.Namespace.blocks.Goals as goal

pub returns : goal.returns
returns c =
    let i = c.self.inside in
    subst (λ (n : Namespace). AreBlockRows n (values_of c.iter.result)) c.self.view_is
    (subst (AreBlockRows (seen i.root i.issued)) (sym (ap values_of c.iter.ensures.all))
    (are_blocks (seen i.root i.issued) i.index c.iter.ensures.ordered c.self.invariant.0))
