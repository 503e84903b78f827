use Rattle.std.proofs.Common.{subst}
use Rattle.nn_device.specs.Page.{PutsPiece}
use Rattle.nn_device.proofs.Pages.{puts_both}
use Rattle.nn_listing.proofs.Pieces.{line_pieces}
use Rattle.nn_listing.proofs.summary.put_count.Goals as goal

pub returns : goal.returns
returns g c =
    subst (λ text. PutsPiece text c.args.page.now c.args.writer.now c.put-2.new.self c.put-2.new.writer) (line_pieces _ _)
    (puts_both _ _ _ _ _ _ _ _ (rw c.as_bytes.ensures.value at c.put.ensures) (puts_both _ _ _ _ _ _ _ _ c.put_field.ensures c.put-2.ensures))
