use Rattle.std.proofs.Common.{true, false, drop}
use Rattle.serde_json.specs.Written.{items_text}
use Rattle.nn_device.specs.Page.{PutsAllBut}
use Rattle.nn_image.specs.Text.{block_items}
use Rattle.nn_image.proofs.row_text.put_blocks.Given as goal

-- the blocks that are left are to be put, and the bracket
abbrev pub invariant-loop-block : goal.invariant-loop-block
invariant-loop-block g l =
    PutsAllBut (items_text false (block_items l.fn.blocks)) (items_text true (block_items (drop l.block-index l.others))) l.fn.page l.fn.writer l.page l.writer
