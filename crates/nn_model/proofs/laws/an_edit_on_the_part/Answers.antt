use Rattle.nn_model.proofs.laws.an_edit_on_the_part.Goals as goal
use Rattle.nn_model.proofs.Parts.{edit_on_part as law}

pub returns : goal.returns
returns c = law
