use Rattle.std.proofs.Common.{subst}
use Rattle.nn_device.specs.Page.{PutsPiece}
use Rattle.nn_device.proofs.Pages.{puts_both}
use Rattle.nn_live.proofs.Pieces.{head_pieces}
use Rattle.nn_live.proofs.texts.put_block_head.Goals as goal

pub returns : goal.returns
returns g c =
    subst (λ text. PutsPiece text c.args.page.now c.args.writer.now c.put_field-3.new.page c.put_field-3.new.writer) (head_pieces _ _ _)
    (puts_both _ _ _ _ _ _ _ _ c.put.ensures (puts_both _ _ _ _ _ _ _ _ (rw c.get.ensures.value at c.put_field.ensures) (puts_both _ _ _ _ _ _ _ _ (rw c.get-2.ensures.value at c.put_field-2.ensures)
    (rw c.get-3.ensures.value at c.put_field-3.ensures))))
