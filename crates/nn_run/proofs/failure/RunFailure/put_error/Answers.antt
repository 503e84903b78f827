use Rattle.std.proofs.Common.{subst}
use Rattle.nn_device.specs.Page.{PutsPiece}
use Rattle.nn_device.proofs.Pages.{puts_both}
use Rattle.nn_run.proofs.FailureLemmas.{error_is}
use Rattle.nn_run.proofs.failure.RunFailure.put_error.Goals as goal

pub returns : goal.returns
returns g c =
    subst (λ text. PutsPiece text c.args.page.now c.args.writer.now c.put-6.new.self c.put-6.new.writer) (error_is c.args.self)
    (puts_both _ _ _ _ _ _ _ _ (puts_both _ _ _ _ _ _ _ _ (puts_both _ _ _ _ _ _ _ _ (puts_both _ _ _ _ _ _ _ _ (puts_both _ _ _ _ _ _ _ _ (puts_both _ _ _ _ _ _ _ _ (puts_both _ _ _ _ _ _ _ _ (puts_both _ _ _ _ _ _ _ _ (puts_both _ _ _ _ _ _ _ _ c.put.ensures c.put_place_before_words.ensures) c.put-2.ensures) c.put_words.ensures) c.put-3.ensures) c.put_number.ensures) c.put-4.ensures) c.put_number-2.ensures) c.put-5.ensures) c.put-6.ensures)
