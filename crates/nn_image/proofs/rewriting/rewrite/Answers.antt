use Rattle.std.proofs.Common.{rules}
use Rattle.nn_image.proofs.rewriting.rewrite.Goals as goal

pub returns-in-Err-clause-untouched : goal.returns-in-Err-clause-untouched
returns-in-Err-clause-untouched g c = search rules
