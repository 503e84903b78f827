use Rattle.std.proofs.Common.{drop}
use Rattle.std.specs.Prelude.{flat_map}
use Rattle.nn_device.specs.Page.{PutsAllBut}
use Rattle.nn_listing.specs.Tables.{order_line}
use Rattle.nn_listing.proofs.tables.put_orders.Given as goal

-- the orders that are left are to be put
abbrev pub invariant-loop-block : goal.invariant-loop-block
invariant-loop-block g l = PutsAllBut (flat_map (λ order. order_line order.0 order.1) l.orders) (flat_map (λ order. order_line order.0 order.1) (drop l.block-index l.orders)) l.fn.page l.fn.writer l.page l.writer
