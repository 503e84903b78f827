use Rattle.std.proofs.Common.{◌≡◌, List, map, take, arith, refl, sym, ap, subst, length, ◌∙◌}
use Rattle.std.proofs.Math.Seq.{take-length}
use Rattle.std.proofs.lemmas.Bool.{both_ways}
use Rattle.nn_types.specs.declared.block.Block.{Block}
use Rattle.nn_model.specs.Blocks.{block_row}
use Rattle.nn_model.specs.WellFormed.{Includes}
use Rattle.nn_model.proofs.Members.{of_block}
use Rattle.nn_replicas.specs.Calls.{has_entry, block_set}
use Rattle.nn_shadow.specs.Steps.{rows_set, file_rows}
use Rattle.nn_shadow.proofs.Filling.{block_more, entry_stays, has_item}
use Rattle.nn_shadow.proofs.table.set_file.Goals as goal

pub loop-block-preserved : goal.loop-block-preserved
loop-block-preserved c = record {
  done = c.in-Ok.ensures.ok
      ∙ ap (λ t. block_set t c.block-item.result c.args.file.now.closed c.narrow-replication.result) c.loop-block.invariant.done
      ∙ block_more c.args.table.now c.args.file.now.closed c.as_slice-block-items.result.now c.loop-block.block-index c.block-item.result c.narrow-replication.result c.loop-block-test.true c.block-item.is;
  entries = λ row here. ap (λ t. has_entry t row.block.id) c.in-Ok.ensures.ok
      ∙ entry_stays c.loop-block.table c.block-item.result c.args.file.now.closed c.narrow-replication.result row.block.id (c.loop-block.invariant.entries row here);
}

pub loop-block-init : goal.loop-block-init
loop-block-init c = record { done = refl; entries = c.requires.entries }

pub returns-in_default : goal.returns-in_default
returns-in_default c =
    let there = subst (Includes c.as_slice-block-items.result.now) (sym c.block-item.is) (has_item c.as_slice-block-items.result.now c.loop-block.block-index c.block-item.result c.loop-block-test.true) in
    let here = c.loop-block.invariant.entries (block_row c.args.file.now.closed c.block-item.result)
    (of_block c.args.file.now.closed c.args.file.now.blocks c.block-item.result (subst (λ bs. Includes bs c.block-item.result) c.as_slice-block-items.ensures there)) in
    absurd (both_ways _ refl (c.in_default.ensures.room here))

pub returns : goal.returns
returns c =
    let file = c.args.file.now in
    let rows = λ (bs : List Block). map (λ (b : Block). block_row file.closed b) bs in
    let at : c.loop-block.block-index ≡ length c.as_slice-block-items.result.now = omega (arith, c.loop-block-test.false, c.loop-block.auto.block-index-end) in
    c.loop-block.invariant.done
    ∙ ap (λ n. rows_set c.args.table.now (rows (take n c.as_slice-block-items.result.now)) c.narrow-replication.result) at
    ∙ ap (λ bs. rows_set c.args.table.now (rows bs) c.narrow-replication.result) (take-length c.as_slice-block-items.result.now ∙ c.as_slice-block-items.ensures)
    ∙ ap (rows_set c.args.table.now (file_rows file)) c.narrow-replication.ensures
