use Rattle.nn_lane.proofs.Events.{new_lane, parts, meets}
use Rattle.nn_lane.proofs.laws.no_event_but_a_step.Goals as goal

pub returns-clause-new : goal.returns-clause-new
returns-clause-new c = new_lane

pub returns-clause-parts : goal.returns-clause-parts
returns-clause-parts c = parts

pub returns-clause-meets : goal.returns-clause-meets
returns-clause-meets c = meets
