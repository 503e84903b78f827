use Rattle.nn_model.proofs.history_laws.same_when_whole.Goals as goal
use Rattle.nn_model.proofs.Whole.{same_when_whole, lawful_is_loose}

pub returns-clause-same : goal.returns-clause-same
returns-clause-same c = same_when_whole

pub returns-clause-loose : goal.returns-clause-loose
returns-clause-loose c = lawful_is_loose
