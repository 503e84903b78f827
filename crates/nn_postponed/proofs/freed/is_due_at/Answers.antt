use Rattle.std.proofs.Common.{rules}
use Rattle.nn_postponed.proofs.freed.is_due_at.Goals as goal

pub returns-then-eq : goal.returns-then-eq
returns-then-eq c = search rules
