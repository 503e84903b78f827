use Rattle.nn_model.proofs.history_laws.ends_in_picture.Goals as goal
use Rattle.nn_model.proofs.Standings.{ends_in_picture}

pub returns : goal.returns
returns c = ends_in_picture
