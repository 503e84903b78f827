use Rattle.std.proofs.Common.{sym}
use Rattle.nn_image.proofs.LoadedLines.{bad_row}
use Rattle.nn_image.proofs.loading.Begun.push.Goals as goal

pub returns-in-Bad-clause-taken : goal.returns-in-Bad-clause-taken
returns-in-Bad-clause-taken c = rw c.in-Bad.is (bad_row c.args.self.now c.if-self.false (sym c.requires.begun.loading.at))
