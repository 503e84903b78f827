use Rattle.std.proofs.Common.{append_assoc}
use Rattle.nn_command.proofs.program.explained.Goals as goal

pub returns : goal.returns
returns c = simp append_assoc c.format.ensures.ok
