use Rattle.nn_model.proofs.laws.root_alone_is_well_formed.Goals as goal
use Rattle.nn_model.proofs.Equals.{root_alone_is_well_formed as law}

pub returns : goal.returns
returns c = law
