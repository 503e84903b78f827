use Rattle.nn_model.proofs.history_laws.once_in_sending_order.Goals as goal
use Rattle.nn_model.proofs.Orders.{processed_once, each_once, in_sending_order}

pub returns-clause-once : goal.returns-clause-once
returns-clause-once c = processed_once

pub returns-clause-each : goal.returns-clause-each
returns-clause-each c = each_once

pub returns-clause-in_order : goal.returns-clause-in_order
returns-clause-in_order c = in_sending_order
