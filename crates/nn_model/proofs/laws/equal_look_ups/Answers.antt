use Rattle.nn_model.proofs.laws.equal_look_ups.Goals as goal
use Rattle.nn_model.proofs.Equals.{equal_look_ups as law}

pub returns : goal.returns
returns c = law
