use Rattle.std.proofs.Common.{drop}
use Rattle.std.specs.Prelude.{flat_map}
use Rattle.nn_device.specs.Page.{PutsAllBut}
use Rattle.nn_listing.specs.Listing.{block_text}
use Rattle.nn_listing.proofs.paths.put_blocks.Given as goal

-- the blocks that are left are to be put
abbrev pub invariant-loop-block : goal.invariant-loop-block
invariant-loop-block g l = PutsAllBut (flat_map block_text l.blocks) (flat_map block_text (drop l.block-index l.blocks)) l.fn.page l.fn.writer l.page l.writer
