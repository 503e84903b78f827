use Rattle.std.proofs.Common.{rules, ◌≡◌, ◌∷◌, true, false}
use Rattle.serde_json.specs.Written.{compact_text, items_text}
use Rattle.nn_device.proofs.Pages.{none_of, one_more, puts_both}
use Rattle.nn_image.specs.Text.{block_value, block_items}
use Rattle.nn_image.proofs.Putting.{next_block, last_bracket}
use Rattle.nn_image.proofs.row_text.put_blocks.Goals as goal

pub loop-block-init : goal.loop-block-init
loop-block-init g c =
    let first = c.in-Some.first.now in
    let others = c.in-Some.others.now in
    let is : c.args.blocks.now ≡ first ∷ others = search rules in
    rw is (one_more (items_text false (block_items (first ∷ others))) (compact_text (block_value first)) (items_text true (block_items others))
    c.args.page.now c.args.page.now c.put_block.new.page c.args.writer.now c.args.writer.now c.put_block.new.writer
    (none_of (items_text false (block_items (first ∷ others))) c.args.page.now c.args.writer.now) c.put_block.ensures)

pub loop-block-preserved : goal.loop-block-preserved
loop-block-preserved g c =
    let put = puts_both _ _ _ _ _ _ _ _ c.put-in-loop-block.ensures c.put_block-in-loop-block.ensures in
    next_block (items_text false (block_items c.args.blocks.now)) c.args.page.now c.loop-block.page c.put_block-in-loop-block.new.page
    c.args.writer.now c.loop-block.writer c.put_block-in-loop-block.new.writer c.in-Some.others.now c.loop-block.block-index c.block-item.result
    c.loop-block-test.true c.loop-block.invariant (search (rules, put))

pub returns : goal.returns
returns g c =
    last_bracket (items_text false (block_items c.args.blocks.now)) c.args.page.now c.loop-block.page c.put-2.new.self c.args.writer.now c.loop-block.writer c.put-2.new.writer
    c.in-Some.others.now c.loop-block.block-index c.loop-block-test.false c.loop-block.invariant c.put-2.ensures
