use Rattle.nn_model.proofs.laws.due_stays.Goals as goal
use Rattle.nn_model.proofs.Dues.{due_stays as law}

pub returns : goal.returns
returns c = law
