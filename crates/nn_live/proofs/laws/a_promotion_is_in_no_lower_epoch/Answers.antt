use Rattle.nn_live.proofs.laws.a_promotion_is_in_no_lower_epoch.Goals as goal
use Rattle.nn_live.proofs.Known.{promotes_in_no_lower_epoch}

pub returns : goal.returns
returns c = promotes_in_no_lower_epoch
