use Rattle.nn_model.proofs.laws.blocks_stay_well_formed.Goals as goal
use Rattle.nn_model.proofs.Wells.{blocks_stay_well_formed as law}

pub returns : goal.returns
returns c = law
