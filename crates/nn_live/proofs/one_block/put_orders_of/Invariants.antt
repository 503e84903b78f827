use Rattle.std.specs.Prelude.{flat_map}
use Rattle.nn_device.specs.Page.{PutsAllBut}
use Rattle.nn_listing.specs.Tables.{order_line}
use Rattle.nn_replicas.specs.Calls.{orders_at}
use Rattle.nn_live.proofs.one_block.put_orders_of.Given as goal

-- the orders that are left are to be put
abbrev pub invariant-loop-dn : goal.invariant-loop-dn
invariant-loop-dn g l = PutsAllBut (flat_map (order_line l.id) (orders_at l.table l.id)) (flat_map (order_line l.id) l.dn-iterator) l.fn.page l.fn.writer l.page l.writer
