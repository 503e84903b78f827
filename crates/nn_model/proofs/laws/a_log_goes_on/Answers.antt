use Rattle.nn_model.proofs.laws.a_log_goes_on.Goals as goal
use Rattle.nn_model.proofs.Logs.{namespace_of_appended, appended_log}

pub returns-clause-namespace : goal.returns-clause-namespace
returns-clause-namespace c = namespace_of_appended

pub returns-clause-log : goal.returns-clause-log
returns-clause-log c = appended_log
