use Rattle.std.proofs.Common.{subst}
use Rattle.std.specs.Prelude.{flat_map}
use Rattle.nn_device.specs.Page.{PutsAllBut}
use Rattle.nn_device.proofs.Pages.{one_more}
use Rattle.nn_replicas.specs.Calls.{replicas_at}
use Rattle.nn_listing.specs.Tables.{lines_of_block, lines_of_replicas}
use Rattle.nn_listing.proofs.tables.put_replicas.Goals as goal

pub loop-block-preserved : goal.loop-block-preserved
loop-block-preserved g c =
    let t = c.args.table.now in
    let line = lines_of_block c.in-Some.block c.in-Some.row.block (replicas_at t c.in-Some.block) in
    one_more (lines_of_replicas t) line (flat_map (λ row. lines_of_block row.0 row.1.block (replicas_at t row.0)) c.next.new.self) c.args.page.now c.loop-block.page c.put_block_replicas.new.page
    c.args.writer.now c.loop-block.writer c.put_block_replicas.new.writer
    (subst (λ rows. PutsAllBut (lines_of_replicas t) (flat_map (λ row. lines_of_block row.0 row.1.block (replicas_at t row.0)) rows) c.args.page.now c.args.writer.now c.loop-block.page c.loop-block.writer) c.in-Some.ensures.steps c.loop-block.invariant)
    (rw c.replicas_of.ensures.all at c.put_block_replicas.ensures)
