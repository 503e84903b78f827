use Rattle.nn_live.proofs.laws.each_report_is_taken_or_told.Goals as goal
use Rattle.nn_live.proofs.Sending.{takes_or_tells_each_report}

pub returns : goal.returns
returns c = takes_or_tells_each_report
