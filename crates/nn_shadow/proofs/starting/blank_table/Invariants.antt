use Rattle.nn_shadow.specs.Starting.{IsFilling}
use Rattle.nn_shadow.proofs.starting.blank_table.Given as goal

-- the rows so far are set
abbrev pub invariant-loop-row : goal.invariant-loop-row
invariant-loop-row l = IsFilling l.namespace l.fn.settings.min l.table l.row-iterator
