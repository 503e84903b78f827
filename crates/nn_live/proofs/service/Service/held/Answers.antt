use Rattle.std.proofs.Common.{map}
use Rattle.nn_live.specs.Answers.{held_line, first_lines}
use Rattle.nn_live.proofs.Answering.{held_told}
use Rattle.nn_live.proofs.service.Service.held.Goals as goal

pub returns : goal.returns
returns g c = (first_lines c.args.most (map held_line c.args.self.now.shadow.held), c.put_waiting.ensures, held_told c.args.self.now c.args.most)
