use Rattle.std.proofs.Common.{subst}
use Rattle.nn_device.specs.Page.{PutsPiece}
use Rattle.nn_device.proofs.Pages.{puts_both}
use Rattle.nn_run.proofs.FailureLemmas.{text_is}
use Rattle.nn_run.proofs.failure.RunFailure.put.Goals as goal

pub returns : goal.returns
returns g c =
    subst (λ text. PutsPiece text c.args.page.now c.args.writer.now c.put-2.new.self c.put-2.new.writer) (text_is c.args.self)
    (puts_both _ _ _ _ _ _ _ _ (puts_both _ _ _ _ _ _ _ _ (puts_both _ _ _ _ _ _ _ _ c.put.ensures c.put_number.ensures) c.put_place.ensures) c.put-2.ensures)
