use Rattle.std.proofs.Common.{subst}
use Rattle.nn_device.specs.Page.{PutsPiece}
use Rattle.nn_device.proofs.Pages.{puts_both}
use Rattle.nn_listing.proofs.tables.ReadyTables.put.Goals as goal

pub returns : goal.returns
returns g c =
    subst (λ text. PutsPiece text c.args.page.now c.args.writer.now c.put_counts.new.page c.put_counts.new.writer) c.self.view_is
    (puts_both _ _ _ _ _ _ _ _ (puts_both _ _ _ _ _ _ _ _ c.put_replicas.ensures (rw c.deref.ensures.value at c.put_orders.ensures)) c.put_counts.ensures)
