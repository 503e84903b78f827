use Rattle.nn_shadow.proofs.laws.the_next_is_taken.Goals as goal
use Rattle.nn_shadow.proofs.Refusing.{next_applies, next_is_taken}

pub returns-clause-apply : goal.returns-clause-apply
returns-clause-apply c = next_applies

pub returns-clause-hand : goal.returns-clause-hand
returns-clause-hand c = next_is_taken
