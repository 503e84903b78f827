use Rattle.nn_model.proofs.laws.stays_well_formed.Goals as goal
use Rattle.nn_model.proofs.Trees.{stays_well_formed as law}

pub returns : goal.returns
returns c = law
