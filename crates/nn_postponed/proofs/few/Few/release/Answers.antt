use Rattle.std.proofs.Common.{sym, []}
use Rattle.nn_postponed.specs.Release.{due_at}
use Rattle.nn_postponed.proofs.few.Few.release.Goals as goal
use Rattle.nn_postponed.proofs.Steps.{none_left}

pub returns-in_default-clause-rest : goal.returns-in_default-clause-rest
returns-in_default-clause-rest c = sym (none_left (due_at c.args.block c.args.status) [] c.args.self.now c.in_default.ensures.none)
