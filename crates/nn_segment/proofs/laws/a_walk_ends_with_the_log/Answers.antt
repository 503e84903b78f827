use Rattle.nn_segment.proofs.laws.a_walk_ends_with_the_log.Goals as goal
use Rattle.nn_segment.proofs.LogEnds.{ends_with_the_log}

pub returns : goal.returns
returns c = ends_with_the_log
