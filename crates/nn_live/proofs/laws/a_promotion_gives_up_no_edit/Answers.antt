use Rattle.nn_live.proofs.laws.a_promotion_gives_up_no_edit.Goals as goal
use Rattle.nn_live.proofs.Known.{promotes_at_the_end}

pub returns : goal.returns
returns c = promotes_at_the_end
