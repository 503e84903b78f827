use Rattle.nn_model.proofs.laws.names_stay_utf8.Goals as goal
use Rattle.nn_model.proofs.Utf8Names.{names_stay_utf8 as law}

pub returns : goal.returns
returns c = law
