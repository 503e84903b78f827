use Rattle.std.proofs.Common.{sym, subst, ap, ◌∙◌}
use Rattle.nn_device.specs.Page.{PutsPiece}
use Rattle.nn_device.proofs.Pages.{puts_both}
use Rattle.nn_listing.specs.Trail.{event_line}
use Rattle.nn_listing.proofs.Pieces.{event_pieces}
use Rattle.nn_listing.proofs.history.put_event.Goals as goal

pub returns-in-Processed : goal.returns-in-Processed
returns-in-Processed g c =
    subst (λ text. PutsPiece text c.args.page.now c.args.writer.now c.put-in-Processed-2.new.self c.put-in-Processed-2.new.writer) (event_pieces _ _ _ _ ∙ ap event_line (sym c.in-Processed.is))
    (puts_both _ _ _ _ _ _ _ _ c.put-in-Processed.ensures (puts_both _ _ _ _ _ _ _ _ (rw c.from.ensures at c.put_field-in-Processed.ensures) (puts_both _ _ _ _ _ _ _ _ c.put_field-in-Processed-2.ensures
    (puts_both _ _ _ _ _ _ _ _ (rw c.get-in-Processed.ensures.value at c.put_field-in-Processed-3.ensures) (puts_both _ _ _ _ _ _ _ _ (rw c.cause_word.ensures at c.put_word.ensures) c.put-in-Processed-2.ensures)))))
