use Rattle.std.proofs.Common.{◌≡◌, false, sym, ap, ◌∙◌, subst}
use Rattle.nn_device.specs.Parts.{TookPrefix}
use Rattle.nn_device.specs.Page.{PutsPiece}
use Rattle.nn_device.proofs.Pages.{piece_lost, piece_written}
use Rattle.nn_device.proofs.page.Page.write_piece.Goals as goal

pub returns-in-Err : goal.returns-in-Err
returns-in-Err g c =
    let well : c.args.self.now.lost ≡ false = ap (λ p. p.lost) (sym c.self.view_is) ∙ c.if-self.false in
    subst (λ q. PutsPiece c.args.piece.now c.args.self.now c.args.writer.now q c.write_part.new.self) (sym c.lose.ensures)
    (piece_lost c.args.self.now c.args.piece.now c.args.writer.now c.write_part.new.self well c.requires
    (subst (TookPrefix c.args.writer.now c.write_part.new.self c.args.piece.now) c.in-Err.ensures.cause c.in-Err.ensures.prefix))

pub returns-in_default : goal.returns-in_default
returns-in_default g c =
    let well : c.args.self.now.lost ≡ false = ap (λ p. p.lost) (sym c.self.view_is) ∙ c.if-self.false in
    piece_written c.args.self.now c.args.piece.now c.args.writer.now c.write_part.new.self well c.requires c.in_default.ensures.ok
