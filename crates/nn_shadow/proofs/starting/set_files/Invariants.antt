use Rattle.std.proofs.Common.{length}
use Rattle.nn_shadow.proofs.Blanks.{IsSetting}
use Rattle.nn_shadow.proofs.starting.set_files.Given as goal

abbrev pub invariant-loop-rows : goal.invariant-loop-rows
invariant-loop-rows l = IsSetting l.namespace l.initial.table l.table l.rows.left

abbrev pub decreases-loop-rows : goal.decreases-loop-rows
decreases-loop-rows l = length l.rows.left
