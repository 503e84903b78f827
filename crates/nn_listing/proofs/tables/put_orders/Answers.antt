use Rattle.std.proofs.Common.{rules, ℕ, List, subst}
use Rattle.nn_device.specs.Page.{PutsPiece}
use Rattle.nn_device.proofs.Pages.{last_of, next_of}
use Rattle.nn_listing.specs.Tables.{order_line}
use Rattle.nn_listing.proofs.tables.put_orders.Goals as goal

-- the line of an order
abbrev line : ℕ × ℕ → List ℕ
line order = order_line order.0 order.1

pub loop-block-preserved : goal.loop-block-preserved
loop-block-preserved g c =
    next_of line c.args.orders.now c.loop-block.block-index c.loop-block-item.result c.args.page.now c.loop-block.page c.put_order.new.page c.args.writer.now c.loop-block.writer c.put_order.new.writer
    (search rules) c.loop-block.invariant (subst (λ x. PutsPiece (line x) c.loop-block.page c.loop-block.writer c.put_order.new.page c.put_order.new.writer) c.loop-block-item.is c.put_order.ensures)

pub returns : goal.returns
returns g c = last_of line c.args.orders.now c.loop-block.block-index c.args.page.now c.loop-block.page c.args.writer.now c.loop-block.writer (search rules) c.loop-block.invariant
