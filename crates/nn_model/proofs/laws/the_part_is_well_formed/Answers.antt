use Rattle.nn_model.proofs.laws.the_part_is_well_formed.Goals as goal
use Rattle.nn_model.proofs.Parts.{part_is_well_formed as law}

pub returns : goal.returns
returns c = law
