use Rattle.std.proofs.Common.{◌==◌, length, filter}
use Rattle.std.specs.Prelude.{flat_map}
use Rattle.nn_types.specs.declared.block.Block.{Block}
use Rattle.nn_device.specs.Page.{PutsAllBut}
use Rattle.nn_tree.specs.Listing.{lent_names}
use Rattle.nn_live.specs.Answers.{block_line}
use Rattle.nn_live.proofs.one_block.put_holder_blocks.Given as goal

-- the lines of the blocks that are left are to be put
abbrev pub invariant-rest : goal.invariant-rest
invariant-rest g l = PutsAllBut (flat_map (block_line (lent_names l.names)) (filter (λ (b : Block). b.id == l.id) l.blocks)) (flat_map (block_line (lent_names l.names)) (filter (λ (b : Block). b.id == l.id) l.rest)) l.fn.page l.fn.writer l.page l.writer

abbrev pub decreases-rest : goal.decreases-rest
decreases-rest g l = length l.rest
