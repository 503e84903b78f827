use Rattle.nn_shadow.proofs.laws.flushes_are_alike.Goals as goal
use Rattle.nn_shadow.proofs.Standings.{flushes_alike, counts_alike}

pub returns-clause-tables : goal.returns-clause-tables
returns-clause-tables c = flushes_alike

pub returns-clause-counts : goal.returns-clause-counts
returns-clause-counts c = counts_alike
