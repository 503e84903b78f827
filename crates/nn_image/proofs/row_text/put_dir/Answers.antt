use Rattle.std.proofs.Common.{subst}
use Rattle.nn_device.specs.Page.{PutsPiece}
use Rattle.nn_tree.specs.Listing.{lent_names}
use Rattle.nn_device.proofs.Pages.{puts_both}
use Rattle.nn_image.proofs.RowTexts.{dir_parts}
use Rattle.nn_image.proofs.row_text.put_dir.Goals as goal

pub returns : goal.returns
returns g c =
    subst (λ t. PutsPiece t c.args.page.now c.args.writer.now c.put-2.new.self c.put-2.new.writer) (dir_parts (lent_names c.args.names.now))
    (puts_both _ _ _ _ _ _ _ _ c.put.ensures (puts_both _ _ _ _ _ _ _ _ c.put_path.ensures c.put-2.ensures))
