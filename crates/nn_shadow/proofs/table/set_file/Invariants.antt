use Rattle.std.proofs.Common.{◌≡◌, map, take}
use Rattle.nn_types.specs.declared.block.Block.{Block}
use Rattle.nn_model.specs.Blocks.{block_row}
use Rattle.nn_shadow.specs.Steps.{rows_set, file_rows, HaveEntries}
use Rattle.nn_shadow.proofs.table.set_file.Given as goal

-- the blocks so far are set, and all have their entries
abbrev pub invariant-loop-block : goal.invariant-loop-block
invariant-loop-block l = record {
  done : l.table ≡ rows_set l.initial.table (map (λ (b : Block). block_row l.fn.file.closed b) (take l.block-index l.block-items)) l.replication;
  entries : HaveEntries l.table (file_rows l.fn.file);
}
