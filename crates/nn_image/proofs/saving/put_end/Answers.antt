use Rattle.std.proofs.Common.{subst}
use Rattle.nn_device.specs.Page.{PutsPiece}
use Rattle.nn_device.proofs.Pages.{puts_both}
use Rattle.nn_image.proofs.RowTexts.{end_parts}
use Rattle.nn_image.proofs.saving.put_end.Goals as goal

pub returns : goal.returns
returns g c =
    subst (λ t. PutsPiece t c.args.page.now c.args.writer.now c.put-2.new.self c.put-2.new.writer) (end_parts c.args.paths)
    (puts_both _ _ _ _ _ _ _ _ c.put.ensures (puts_both _ _ _ _ _ _ _ _ c.put_number.ensures c.put-2.ensures))
