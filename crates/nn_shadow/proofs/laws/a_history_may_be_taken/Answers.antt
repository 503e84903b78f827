use Rattle.nn_shadow.proofs.laws.a_history_may_be_taken.Goals as goal
use Rattle.nn_shadow.proofs.Taken.{applies_after, receives_after, flushes_after, takes_after}

pub returns-clause-apply : goal.returns-clause-apply
returns-clause-apply c = applies_after

pub returns-clause-hand : goal.returns-clause-hand
returns-clause-hand c = receives_after

pub returns-clause-flush : goal.returns-clause-flush
returns-clause-flush c = flushes_after

pub returns-clause-take : goal.returns-clause-take
returns-clause-take c = takes_after
