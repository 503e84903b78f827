use Rattle.std.proofs.Common.{◌≡◌, take}
use Rattle.nn_shadow.specs.Steps.{rows_set, HaveEntries}
use Rattle.nn_shadow.proofs.table.set_rows.Given as goal

abbrev pub invariant-loop-row : goal.invariant-loop-row
invariant-loop-row l = record {
  done : l.table ≡ rows_set l.initial.table (take l.row-index l.rows) l.replication;
  entries : HaveEntries l.table l.rows;
}
