use Rattle.std.proofs.Common.{◌≡◌, false, sym, ap, ◌∙◌, subst, take}
use Rattle.nn_device.specs.Parts.{TookPrefix}
use Rattle.nn_device.proofs.Pages.{not_written, still}
use Rattle.nn_device.proofs.page.Page.end.Goals as goal

pub returns-clause-prefix : goal.returns-clause-prefix
returns-clause-prefix g c = λ start text h.
    let p = c.args.self in
    let left = take c.self.inside.used c.deref.result.now in
    let well : p.lost ≡ false = ap (λ p. p.lost) (sym c.self.view_is) ∙ c.if-lost.false in
    let is : p.left ≡ left = ap (λ p. p.left) (sym c.self.view_is) ∙ ap (take c.self.inside.used) (sym c.deref.ensures.value) in
    not_written start c.args.writer.now c.write_part.new.self text left (still start c.args.writer.now text p left well is h)
    (subst (TookPrefix c.args.writer.now c.write_part.new.self left) c.in-Err.ensures.cause c.in-Err.ensures.prefix)
