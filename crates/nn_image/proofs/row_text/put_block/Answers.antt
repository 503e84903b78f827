use Rattle.std.proofs.Common.{subst}
use Rattle.nn_device.specs.Page.{PutsPiece}
use Rattle.nn_device.proofs.Pages.{puts_both}
use Rattle.nn_image.proofs.RowTexts.{block_parts}
use Rattle.nn_image.proofs.row_text.put_block.Goals as goal

pub returns : goal.returns
returns g c =
    let stamp = rw c.get.ensures.value at c.put_number.ensures in
    let id = rw c.get-2.ensures.value at c.put_number-2.ensures in
    let len = rw c.get-3.ensures.value at c.put_number-3.ensures in
    subst (λ t. PutsPiece t c.args.page.now c.args.writer.now c.put-4.new.self c.put-4.new.writer) (block_parts c.args.block)
    (puts_both _ _ _ _ _ _ _ _ c.put.ensures (puts_both _ _ _ _ _ _ _ _ stamp (puts_both _ _ _ _ _ _ _ _ c.put-2.ensures (puts_both _ _ _ _ _ _ _ _ id (puts_both _ _ _ _ _ _ _ _ c.put-3.ensures (puts_both _ _ _ _ _ _ _ _ len c.put-4.ensures))))))
