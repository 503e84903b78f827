use Rattle.nn_scenario.proofs.CheckLemmas.{nothing_checked}
use Rattle.nn_scenario.proofs.checking.SegmentCheck.new.Goals as goal

pub returns-clause-of : goal.returns-clause-of
returns-clause-of c = nothing_checked
