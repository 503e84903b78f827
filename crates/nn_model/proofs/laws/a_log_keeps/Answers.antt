use Rattle.nn_model.proofs.laws.a_log_keeps.Goals as goal
use Rattle.nn_model.proofs.Logs.{log_keeps_well_formed, log_keeps_blocks, log_keeps_due}

pub returns-clause-well_formed : goal.returns-clause-well_formed
returns-clause-well_formed c = log_keeps_well_formed

pub returns-clause-blocks : goal.returns-clause-blocks
returns-clause-blocks c = log_keeps_blocks

pub returns-clause-due : goal.returns-clause-due
returns-clause-due c = log_keeps_due
