use Rattle.std.proofs.Common.{◌≡◌, true, ◌+◌, ◌∷◌, [], ◌++◌, map, length, drop, sym, ap, subst, ◌∙◌, append_assoc, arith}
use Rattle.nn_types.specs.declared.event.Cause.TheVariants.{Due}
use Rattle.nn_model.specs.WellFormed.{Includes}
use Rattle.nn_model.specs.History.{processed}
use Rattle.nn_replicas.specs.Calls.{is_placed}
use Rattle.nn_shadow.specs.Steps.{messages_taken, not_held}
use Rattle.nn_shadow.proofs.Rest.{rest_takes, has_at}
use Rattle.nn_shadow.proofs.Tables.{message_keeps}
use Rattle.nn_shadow.proofs.settle.process_due.Goals as goal

pub process-requires : goal.process-requires
process-requires c = c.loop-item.invariant.placed c.item-item.result
    (subst (Includes c.args.items.now) (sym c.item-item.is) (has_at c.args.items.now c.loop-item.item-index c.item-item.result c.loop-item-test.true))

pub loop-item-preserved : goal.loop-item-preserved
loop-item-preserved c =
    let x = c.item-item.result in
    let here : is_placed c.loop-item.table x.dn x.block ≡ true = c.loop-item.invariant.placed x
    (subst (Includes c.args.items.now) (sym c.item-item.is) (has_at c.args.items.now c.loop-item.item-index x c.loop-item-test.true)) in
    let takes : not_held c.args.held.now (drop c.loop-item.item-index c.args.items.now) ≡ x ∷ not_held c.args.held.now (drop (c.loop-item.item-index + 1) c.args.items.now) =
    rest_takes c.args.held.now c.args.items.now c.loop-item.item-index x c.loop-item-test.true c.item-item.is (sym c.holds.ensures ∙ c.if-holds.false) in
    let left = not_held c.args.held.now (drop (c.loop-item.item-index + 1) c.args.items.now) in
    record {
      told = ap (λ h. h ++ map (processed Due) left) (c.in-Ok.ensures.items ∙ ap (λ e. c.loop-item.history.items ++ e ∷ []) c.processed.ensures)
          ∙ append_assoc c.loop-item.history.items (processed Due x ∷ []) (map (processed Due) left)
          ∙ ap (λ l. c.loop-item.history.items ++ map (processed Due) l) (sym takes) ∙ c.loop-item.invariant.told;
      taken = ap (λ t. messages_taken t left) c.process.ensures ∙ ap (messages_taken c.loop-item.table) (sym takes) ∙ c.loop-item.invariant.taken;
      room = omega (arith, c.loop-item.invariant.room, ap length takes, c.in-Ok.ensures.len, c.in-Ok.ensures.capacity);
      placed = λ m own. ap (λ t. is_placed t m.dn m.block) c.process.ensures
          ∙ (message_keeps c.loop-item.table x here).room m.dn m.block ∙ c.loop-item.invariant.placed m own;
    }
