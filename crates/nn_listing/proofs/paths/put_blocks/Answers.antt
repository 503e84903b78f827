use Rattle.std.proofs.Common.{rules, subst}
use Rattle.nn_device.specs.Page.{PutsPiece}
use Rattle.nn_device.proofs.Pages.{last_of, next_of}
use Rattle.nn_listing.specs.Listing.{block_text}
use Rattle.nn_listing.proofs.paths.put_blocks.Goals as goal

pub loop-block-preserved : goal.loop-block-preserved
loop-block-preserved g c =
    next_of block_text c.args.blocks.now c.loop-block.block-index c.block-item.result c.args.page.now c.loop-block.page c.put_block.new.page c.args.writer.now c.loop-block.writer c.put_block.new.writer
    (search rules) c.loop-block.invariant (subst (λ x. PutsPiece (block_text x) c.loop-block.page c.loop-block.writer c.put_block.new.page c.put_block.new.writer) c.block-item.is c.put_block.ensures)

pub returns : goal.returns
returns g c = last_of block_text c.args.blocks.now c.loop-block.block-index c.args.page.now c.loop-block.page c.args.writer.now c.loop-block.writer (search rules) c.loop-block.invariant
