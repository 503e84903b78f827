use Rattle.nn_model.proofs.laws.a_log_on_the_part.Goals as goal
use Rattle.nn_model.proofs.Parts.{log_on_part as law}

pub returns : goal.returns
returns c = law
