use Rattle.std.proofs.Common.{subst}
use Rattle.nn_device.specs.Page.{PutsAllBut}
use Rattle.nn_device.proofs.Pages.{one_more}
use Rattle.nn_listing.specs.Tables.{lines_of_block, replica_line}
use Rattle.nn_listing.proofs.tables.put_block_replicas.Goals as goal

pub loop-dn-preserved : goal.loop-dn-preserved
loop-dn-preserved g c =
    let id = c.args.id in
    let block = c.args.block.now in
    one_more (lines_of_block id block c.args.replicas) (replica_line id block c.in-Some.dn c.in-Some.replica) (lines_of_block id block c.next.new.self) c.args.page.now c.loop-dn.page c.put_replica.new.page
    c.args.writer.now c.loop-dn.writer c.put_replica.new.writer
    (subst (λ left. PutsAllBut (lines_of_block id block c.args.replicas) (lines_of_block id block left) c.args.page.now c.args.writer.now c.loop-dn.page c.loop-dn.writer) c.in-Some.ensures.steps c.loop-dn.invariant) c.put_replica.ensures
