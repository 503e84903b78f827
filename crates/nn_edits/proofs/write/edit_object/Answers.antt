use Rattle.std.proofs.Common.{rules}
use Rattle.nn_edits.proofs.write.edit_object.Goals as goal

pub returns-in-StartSegment-clause-value : goal.returns-in-StartSegment-clause-value
returns-in-StartSegment-clause-value c = search rules
