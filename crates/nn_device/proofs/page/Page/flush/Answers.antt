use Rattle.std.proofs.Common.{◌≡◌, false, sym, ap, ◌∙◌, subst, take}
use Rattle.nn_device.specs.Parts.{TookPrefix}
use Rattle.nn_device.specs.Page.{PutsPiece}
use Rattle.nn_device.proofs.Pages.{part_lost}
use Rattle.nn_device.proofs.page.Page.flush.Goals as goal

pub returns-in-Err-clause-same : goal.returns-in-Err-clause-same
returns-in-Err-clause-same g c =
    let p = c.args.self.now in
    let used = c.self.inside.used in
    let left = take used c.deref.result.now in
    let well : p.lost ≡ false = ap (λ p. p.lost) (sym c.self.view_is) ∙ c.if-self.false in
    let is : p.left ≡ left = ap (λ p. p.left) (sym c.self.view_is) ∙ ap (take used) (sym c.deref.ensures.value) in
    subst (λ q. PutsPiece _ p c.args.writer.now q c.write_part-written.new.self) (sym c.lose.ensures)
    (part_lost p left c.args.writer.now c.write_part-written.new.self well is
    (subst (TookPrefix c.args.writer.now c.write_part-written.new.self left) c.in-Err.ensures.cause c.in-Err.ensures.prefix))
