use Rattle.nn_live.proofs.laws.a_history_tells_all.Goals as goal
use Rattle.nn_live.proofs.Telling.{history_tells_all, history_tells_all_at_end}

pub returns-clause-so_far : goal.returns-clause-so_far
returns-clause-so_far c = history_tells_all

pub returns-clause-at_end : goal.returns-clause-at_end
returns-clause-at_end c = history_tells_all_at_end
