use Rattle.nn_live.proofs.laws.an_input_may_be_cut.Goals as goal
use Rattle.nn_live.proofs.Cutting.{may_be_cut}

pub returns : goal.returns
returns c = may_be_cut
