use Rattle.std.proofs.Common.{◌≡◌, IfOk, subst}
use Rattle.std.specs.Prelude.{string_bytes}
use Rattle.nn_image.specs.Text.{image_file_name}
use Rattle.nn_image.proofs.Naming.{named, named_ok}
use Rattle.nn_image.proofs.saving.image_name.Goals as goal

pub returns : goal.returns
returns c =
    let text = rw c.laid_out.ensures at c.format.ensures.ok in
    subst (λ n. IfOk c.format.result (λ name. string_bytes name ≡ image_file_name n)) c.get-txid.ensures.value
    (named_ok string_bytes c.format.result _ _ (named c.get-txid.result) text)
