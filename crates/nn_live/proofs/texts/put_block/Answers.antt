use Rattle.std.proofs.Common.{subst}
use Rattle.nn_device.specs.Page.{PutsPiece}
use Rattle.nn_device.proofs.Pages.{puts_both}
use Rattle.nn_tree.specs.Listing.{lent_names}
use Rattle.nn_listing.specs.Listing.{path_json}
use Rattle.nn_live.specs.Answers.{block_head}
use Rattle.nn_live.proofs.Pieces.{path_pieces}
use Rattle.nn_live.proofs.texts.put_block.Goals as goal

pub returns : goal.returns
returns g c =
    subst (λ text. PutsPiece text c.args.page.now c.args.writer.now c.put_byte-2.new.self c.put_byte-2.new.writer) (path_pieces (block_head c.args.block.now) (path_json (lent_names c.args.names.now)))
    (puts_both _ _ _ _ _ _ _ _ c.put_block_head.ensures (puts_both _ _ _ _ _ _ _ _ c.put_byte.ensures (puts_both _ _ _ _ _ _ _ _ c.put_path.ensures c.put_byte-2.ensures)))
