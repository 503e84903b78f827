use Rattle.std.proofs.Common.{arith, subst}
use Rattle.nn_device.specs.Device.{Took}
use Rattle.nn_device.proofs.Parts.{prefix_taken}
use Rattle.nn_run.specs.Run.{Unfinished}
use Rattle.nn_run.proofs.output.finish_unread.Goals as goal

pub returns-in-Err-clause-prefix : goal.returns-in-Err-clause-prefix
returns-in-Err-clause-prefix g c =
    let failed = c.in-Err.ensures.err in
    let took = prefix_taken c.args.writer.now c.write_all.new.self c.unread_line.result.now c.in-Err.failed.written failed in
    subst (λ text. Unfinished c.args.writer.now c.write_all.new.self text (record { written = c.in-Err.failed.written })) c.unread_line.ensures
    (record { took = took; told = omega (arith, failed.counted, took.counted) })
