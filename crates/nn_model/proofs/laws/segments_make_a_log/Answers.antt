use Rattle.nn_model.proofs.laws.segments_make_a_log.Goals as goal
use Rattle.nn_model.proofs.Logs.{log_counts_up, one_more_segment, old_adds_nothing, gap_adds_nothing, overlap_adds_the_rest}

pub returns-clause-counts_up : goal.returns-clause-counts_up
returns-clause-counts_up c = log_counts_up

pub returns-clause-one_more : goal.returns-clause-one_more
returns-clause-one_more c = one_more_segment

pub returns-clause-old : goal.returns-clause-old
returns-clause-old c = old_adds_nothing

pub returns-clause-gap : goal.returns-clause-gap
returns-clause-gap c = gap_adds_nothing

pub returns-clause-overlap : goal.returns-clause-overlap
returns-clause-overlap c = overlap_adds_the_rest
