use Rattle.std.proofs.Common.{subst}
use Rattle.nn_device.specs.Page.{PutsPiece}
use Rattle.nn_device.proofs.Pages.{puts_both}
use Rattle.nn_listing.proofs.Pieces.{sender_line}
use Rattle.nn_listing.proofs.summary.put_sender.Goals as goal

pub returns : goal.returns
returns g c =
    subst (λ text. PutsPiece text c.args.page.now c.args.writer.now c.put-3.new.self c.put-3.new.writer)
    (sender_line c.args.dn (record { messages = c.args.messages; waiting = c.args.waiting; report = c.args.report }) c.if-messages-eq0.false)
    (puts_both _ _ _ _ _ _ _ _ c.put.ensures (puts_both _ _ _ _ _ _ _ _ (rw c.from.ensures at c.put_field.ensures) (puts_both _ _ _ _ _ _ _ _ c.put_field-2.ensures (puts_both _ _ _ _ _ _ _ _ c.put-2.ensures (puts_both _ _ _ _ _ _ _ _ c.put_field-3.ensures
    (puts_both _ _ _ _ _ _ _ _ c.put_report.ensures c.put-3.ensures))))))
