use Rattle.std.proofs.Common.{◌∷◌, [], ◌++◌, take, refl, sym, ap, subst, ◌∙◌}
use Rattle.std.proofs.lemmas.List.{take_more}
use Rattle.std.proofs.lemmas.Bool.{both_ways}
use Rattle.nn_model.specs.WellFormed.{Includes}
use Rattle.nn_replicas.specs.Calls.{has_entry, block_set}
use Rattle.nn_shadow.specs.Steps.{rows_set}
use Rattle.nn_shadow.proofs.Filling.{set_more, entry_stays, has_item}
use Rattle.nn_shadow.proofs.table.set_rows.Goals as goal

pub loop-row-preserved : goal.loop-row-preserved
loop-row-preserved c = record {
  done = c.in-Ok.ensures.ok
      ∙ ap (λ t. block_set t c.row-item.result.block c.row-item.result.closed c.args.replication) c.loop-row.invariant.done
      ∙ sym (set_more c.args.table.now (take c.loop-row.row-index c.args.rows.now) c.args.replication c.row-item.result)
      ∙ ap (λ x. rows_set c.args.table.now (take c.loop-row.row-index c.args.rows.now ++ x ∷ []) c.args.replication) c.row-item.is
      ∙ ap (λ xs. rows_set c.args.table.now xs c.args.replication) (sym (take_more c.args.rows.now c.loop-row.row-index c.row-item.result c.loop-row-test.true));
  entries = λ row here. ap (λ t. has_entry t row.block.id) c.in-Ok.ensures.ok
      ∙ entry_stays c.loop-row.table c.row-item.result.block c.row-item.result.closed c.args.replication row.block.id (c.loop-row.invariant.entries row here);
}

pub returns-in_default : goal.returns-in_default
returns-in_default c =
    let here = c.loop-row.invariant.entries c.row-item.result
    (subst (Includes c.args.rows.now) (sym c.row-item.is) (has_item c.args.rows.now c.loop-row.row-index c.row-item.result c.loop-row-test.true)) in
    absurd (both_ways _ refl (c.in_default.ensures.room here))
