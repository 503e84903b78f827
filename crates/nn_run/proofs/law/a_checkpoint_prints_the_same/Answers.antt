use Rattle.nn_run.proofs.CheckpointLemmas.{prints_the_same, starts_there}
use Rattle.nn_run.proofs.law.a_checkpoint_prints_the_same.Goals as goal

pub returns-clause-tables : goal.returns-clause-tables
returns-clause-tables c = prints_the_same

pub returns-clause-start : goal.returns-clause-start
returns-clause-start c = starts_there
