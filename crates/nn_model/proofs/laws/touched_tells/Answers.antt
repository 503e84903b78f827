use Rattle.nn_model.proofs.laws.touched_tells.Goals as goal
use Rattle.nn_model.proofs.Touches.{block_of_row}
use Rattle.nn_model.proofs.TouchedEdits.{touched_tells, rows_told}

pub returns-clause-blocks : goal.returns-clause-blocks
returns-clause-blocks c = touched_tells

pub returns-clause-rows : goal.returns-clause-rows
returns-clause-rows c = rows_told

pub returns-clause-shown : goal.returns-clause-shown
returns-clause-shown c = block_of_row
