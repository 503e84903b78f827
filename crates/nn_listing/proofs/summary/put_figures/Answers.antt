use Rattle.std.proofs.Common.{subst}
use Rattle.nn_device.specs.Page.{PutsPiece}
use Rattle.nn_device.proofs.Pages.{puts_both}
use Rattle.nn_listing.specs.Counted.{counts_told}
use Rattle.nn_listing.proofs.Pieces.{counts_lines}
use Rattle.nn_listing.proofs.summary.put_figures.Goals as goal

pub returns : goal.returns
returns g c =
    subst (λ text. PutsPiece text c.args.page.now c.args.writer.now c.put_count-11.new.page c.put_count-11.new.writer) (counts_lines (counts_told c.args.files c.args.directories c.args.figures.now))
    (puts_both _ _ _ _ _ _ _ _ c.put_count.ensures (puts_both _ _ _ _ _ _ _ _ c.put_count-2.ensures (puts_both _ _ _ _ _ _ _ _ c.put_count-3.ensures (puts_both _ _ _ _ _ _ _ _ c.put_count-4.ensures (puts_both _ _ _ _ _ _ _ _ c.put_count-5.ensures (puts_both _ _ _ _ _ _ _ _ c.put_count-6.ensures (puts_both _ _ _ _ _ _ _ _ c.put_count-7.ensures (puts_both _ _ _ _ _ _ _ _ c.put_count-8.ensures (puts_both _ _ _ _ _ _ _ _ c.put_count-9.ensures (puts_both _ _ _ _ _ _ _ _ c.put_count-10.ensures c.put_count-11.ensures))))))))))
