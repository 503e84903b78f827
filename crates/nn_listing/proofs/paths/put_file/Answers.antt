use Rattle.std.proofs.Common.{subst}
use Rattle.std.specs.Prelude.{decimal, flat_map}
use Rattle.nn_device.specs.Page.{PutsPiece}
use Rattle.nn_device.proofs.Pages.{puts_both}
use Rattle.nn_tree.specs.Listing.{lent_names}
use Rattle.nn_listing.specs.Listing.{block_text, path_json, state_text}
use Rattle.nn_listing.proofs.Pieces.{file_pieces}
use Rattle.nn_listing.proofs.paths.put_file.Goals as goal

pub returns : goal.returns
returns g c =
    subst (λ text. PutsPiece text c.args.page.now c.args.writer.now c.put_byte.new.self c.put_byte.new.writer) (file_pieces (path_json (lent_names c.args.names.now)) (decimal c.args.file.now.replication) (state_text c.args.file.now.closed) (flat_map block_text c.args.file.now.blocks))
    (puts_both _ _ _ _ _ _ _ _ c.put.ensures (puts_both _ _ _ _ _ _ _ _ c.put_path.ensures
    (puts_both _ _ c.put_path.new.page c.put_short.new.self c.put_byte.new.self c.put_path.new.writer c.put_short.new.writer c.put_byte.new.writer (rw (c.from.ensures, c.get.ensures.value) at c.put_short.ensures)
    (puts_both _ _ _ _ _ _ _ _ (rw c.as_slice.ensures at c.put_blocks.ensures) c.put_byte.ensures))))
