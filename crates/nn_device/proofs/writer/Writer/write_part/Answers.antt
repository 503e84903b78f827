use Rattle.std.proofs.Common.{rules}
use Rattle.nn_device.proofs.Parts.{prefix_taken}
use Rattle.nn_device.proofs.writer.Writer.write_part.Goals as goal

pub returns-in-Err-clause-prefix : goal.returns-in-Err-clause-prefix
returns-in-Err-clause-prefix g c =
    prefix_taken c.args.self.now c.write_all.new.self c.args.part.now c.in-Err.field-0.written c.in-Err.ensures.err

pub returns-in-Err-clause-cause : goal.returns-in-Err-clause-cause
returns-in-Err-clause-cause g c = search rules
