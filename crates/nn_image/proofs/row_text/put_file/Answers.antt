use Rattle.std.proofs.Common.{subst}
use Rattle.nn_device.specs.Page.{PutsPiece}
use Rattle.nn_tree.specs.Listing.{lent_names}
use Rattle.nn_device.proofs.Pages.{puts_both}
use Rattle.nn_image.proofs.RowTexts.{file_parts}
use Rattle.nn_image.proofs.row_text.put_file.Goals as goal

pub returns : goal.returns
returns g c =
    let blocks = rw c.as_slice.ensures at c.put_blocks.ensures in
    let closed = rw (c.as_bytes.ensures.value, c.word.ensures) at c.put-3.ensures in
    let replication = rw (c.from.ensures, c.get.ensures.value) at c.put_number.ensures in
    subst (λ t. PutsPiece t c.args.page.now c.args.writer.now c.put-6.new.self c.put-6.new.writer) (file_parts (lent_names c.args.names.now) c.args.file.now)
    (puts_both _ _ _ _ _ _ _ _ c.put.ensures (puts_both _ _ _ _ _ _ _ _ blocks (puts_both _ _ _ _ _ _ _ _ c.put-2.ensures (puts_both _ _ _ _ _ _ _ _ closed (puts_both _ _ _ _ _ _ _ _ c.put-4.ensures (puts_both _ _ _ _ _ _ _ _ c.put_path.ensures (puts_both _ _ _ _ _ _ _ _ c.put-5.ensures (puts_both _ _ _ _ _ _ _ _ replication c.put-6.ensures))))))))
