use Rattle.std.proofs.Common.{subst}
use Rattle.nn_device.specs.Page.{PutsPiece}
use Rattle.nn_device.proofs.Pages.{puts_both}
use Rattle.nn_listing.proofs.Pieces.{counts_pieces}
use Rattle.nn_listing.proofs.tables.put_counts.Goals as goal

pub returns : goal.returns
returns g c =
    subst (λ text. PutsPiece text c.args.page.now c.args.writer.now c.put-5.new.self c.put-5.new.writer) (counts_pieces _ _ _ _)
    (puts_both _ _ _ _ _ _ _ _ c.put.ensures (puts_both _ _ _ _ _ _ _ _ c.put_field.ensures (puts_both _ _ _ _ _ _ _ _ c.put-2.ensures (puts_both _ _ _ _ _ _ _ _ c.put_field-2.ensures
    (puts_both _ _ _ _ _ _ _ _ c.put-3.ensures (puts_both _ _ _ _ _ _ _ _ c.put_field-3.ensures (puts_both _ _ _ _ _ _ _ _ c.put-4.ensures
    (puts_both _ _ _ _ _ _ _ _ (rw c.mode_word.ensures at c.put_word.ensures) c.put-5.ensures))))))))
