use Rattle.std.proofs.Common.{◌++◌, [], ◌∷◌, true, false, append_assoc, append-nil, ap, sym, ◌∙◌}
use Rattle.nn_replicas.proofs.Listed.{orders_more}
use Rattle.nn_replicas.proofs.entry.Entry.push_orders.Goals.{then-cell+in_ok-push, else-cell}
use Rattle.nn_replicas.proofs.entry.Entry.push_orders.Goals as goal

pub loop-slot-preserved : goal.loop-slot-preserved
loop-slot-preserved c =
    elim c.if-cell.branch [
      | then-cell+in_ok-push w ↦
          ap (λ v. v.items) w.orders-is ∙ w.in_ok-push.ensures.items ∙ ap (λ d. c.loop-slot.orders.items ++ (c.args.block, d) ∷ []) w.dn.ensures ∙ ap (λ r. r ++ (c.args.block, c.slot-item.result.0) ∷ []) c.loop-slot.invariant ∙ append_assoc c.args.orders.now.items _ _
          ∙ ap (λ r. c.args.orders.now.items ++ r) (sym (orders_more c.args.block c.as_slice-slot-items.result.now c.loop-slot.slot-index c.slot-item.result true c.loop-slot-test.true c.slot-item.is (ap (λ cell. cell.ordered) (sym c.cell.ensures) ∙ w.if-cell.true)))
      | else-cell w ↦
          ap (λ v. v.items) w.orders-is ∙ c.loop-slot.invariant
          ∙ ap (λ r. c.args.orders.now.items ++ r) (sym (append-nil _) ∙ sym (orders_more c.args.block c.as_slice-slot-items.result.now c.loop-slot.slot-index c.slot-item.result false c.loop-slot-test.true c.slot-item.is (ap (λ cell. cell.ordered) (sym c.cell.ensures) ∙ w.if-cell.false)))
    ]
