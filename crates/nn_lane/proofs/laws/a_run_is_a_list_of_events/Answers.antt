use Rattle.nn_lane.proofs.Events.{run}
use Rattle.nn_lane.proofs.laws.a_run_is_a_list_of_events.Goals as goal

pub returns : goal.returns
returns c = λ node n s s' events h h'. run node n events s s' h h'
