use Rattle.nn_model.proofs.history_laws.one_log_one_picture.Goals as goal
use Rattle.nn_model.proofs.Standings.{same_when_flushed, same_before_flush}

pub returns-clause-flushed : goal.returns-clause-flushed
returns-clause-flushed c = same_when_flushed

pub returns-clause-before : goal.returns-clause-before
returns-clause-before c = same_before_flush
