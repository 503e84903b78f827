use Rattle.std.proofs.Common.{subst}
use Rattle.nn_device.specs.Page.{PutsPiece}
use Rattle.nn_device.proofs.Pages.{puts_both}
use Rattle.nn_live.proofs.Pieces.{held_pieces}
use Rattle.nn_live.proofs.texts.put_held.Goals as goal

pub returns : goal.returns
returns g c =
    subst (λ text. PutsPiece text c.args.page.now c.args.writer.now c.put_byte-2.new.self c.put_byte-2.new.writer) (held_pieces _ _ _ _ _)
    (puts_both _ _ _ _ _ _ _ _ c.put.ensures (puts_both _ _ _ _ _ _ _ _ (rw c.get.ensures.value at c.put_field.ensures) (puts_both _ _ _ _ _ _ _ _ (rw c.from.ensures at c.put_field-2.ensures)
    (puts_both _ _ _ _ _ _ _ _ c.put_field-3.ensures (puts_both _ _ _ _ _ _ _ _ (rw c.get-2.ensures.value at c.put_field-4.ensures) (puts_both _ _ _ _ _ _ _ _ c.put_byte.ensures
    (puts_both _ _ _ _ _ _ _ _ (rw (c.as_bytes.ensures.value, c.word.ensures) at c.put-2.ensures) c.put_byte-2.ensures)))))))
