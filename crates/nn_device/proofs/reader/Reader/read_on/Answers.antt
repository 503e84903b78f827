use Rattle.std.proofs.Common.{rules}
use Rattle.nn_device.proofs.reader.Reader.read_on.Goals as goal

pub returns-clause-bytes : goal.returns-clause-bytes
returns-clause-bytes g c = search rules

pub returns-clause-ok : goal.returns-clause-ok
returns-clause-ok g c = search rules
