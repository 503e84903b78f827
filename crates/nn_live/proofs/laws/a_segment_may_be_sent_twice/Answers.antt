use Rattle.nn_live.proofs.laws.a_segment_may_be_sent_twice.Goals as goal
use Rattle.nn_live.proofs.Twice.{may_be_sent_twice}

pub returns : goal.returns
returns c = may_be_sent_twice
