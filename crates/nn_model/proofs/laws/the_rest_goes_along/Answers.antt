use Rattle.nn_model.proofs.laws.the_rest_goes_along.Goals as goal
use Rattle.nn_model.proofs.Parts.{edit_carries, log_carries}

pub returns-clause-edit : goal.returns-clause-edit
returns-clause-edit c = edit_carries

pub returns-clause-log : goal.returns-clause-log
returns-clause-log c = log_carries
