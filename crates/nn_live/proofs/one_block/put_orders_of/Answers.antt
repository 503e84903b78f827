use Rattle.std.proofs.Common.{List, ℕ, subst}
use Rattle.std.specs.Prelude.{flat_map}
use Rattle.nn_device.specs.Page.{PutsAllBut}
use Rattle.nn_device.proofs.Pages.{one_more}
use Rattle.nn_listing.specs.Tables.{order_line}
use Rattle.nn_replicas.specs.Calls.{orders_at}
use Rattle.nn_live.proofs.one_block.put_orders_of.Goals as goal

pub loop-dn-preserved : goal.loop-dn-preserved
loop-dn-preserved g c =
    let lines : List ℕ → List ℕ = λ dns. flat_map (order_line c.args.id) dns in
    let all = lines (orders_at c.args.table.now c.args.id) in
    one_more all (order_line c.args.id c.in-Some.dn) (lines c.next.new.self) c.args.page.now c.loop-dn.page c.put_order.new.page c.args.writer.now c.loop-dn.writer c.put_order.new.writer
    (subst (λ left. PutsAllBut all (lines left) c.args.page.now c.args.writer.now c.loop-dn.page c.loop-dn.writer) c.in-Some.ensures.steps c.loop-dn.invariant) c.put_order.ensures
