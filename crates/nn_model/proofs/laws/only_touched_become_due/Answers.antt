use Rattle.nn_model.proofs.laws.only_touched_become_due.Goals as goal
use Rattle.nn_model.proofs.Untouched.{only_touched_become_due as law}

pub returns : goal.returns
returns c = law
