use Rattle.std.proofs.Common.{sym, subst}
use Rattle.nn_types.specs.Block.{AreBlocks}
use Rattle.nn_types.proofs.Lists.{with_block}
use Rattle.nn_types.proofs.block.Blocks.push.Goals as goal

pub invariant_of-self-2 : goal.invariant_of-self-2
invariant_of-self-2 c = subst AreBlocks (sym c.in_ok-push_block.ensures.ok) (with_block c.self.inside.items.items c.args.block c.self.invariant c.recall_invariant.ensures)
