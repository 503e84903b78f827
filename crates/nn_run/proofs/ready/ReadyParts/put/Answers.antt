use Rattle.std.proofs.Common.{subst}
use Rattle.nn_device.specs.Page.{PutsPiece}
use Rattle.nn_device.proofs.Pages.{puts_both}
use Rattle.nn_run.proofs.ready.ReadyParts.put.Goals as goal

pub returns : goal.returns
returns g c =
    subst (λ text. PutsPiece text c.args.page.now c.args.writer.now c.put_asked_image.new.page c.put_asked_image.new.writer) c.self.view_is
    (puts_both _ _ _ _ _ _ _ _ c.put_history.ensures
    (puts_both _ _ _ _ _ _ _ _ (puts_both _ _ _ _ _ _ _ _ c.put.ensures c.put-2.ensures)
    (puts_both _ _ _ _ _ _ _ _ c.put_asked_summary.ensures (puts_both _ _ _ _ _ _ _ _ c.put_asked_unsafe.ensures c.put_asked_image.ensures))))
