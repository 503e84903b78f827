use Rattle.std.proofs.Common.{[], subst, arith}
use Rattle.nn_device.specs.Parts.{TookPrefix}
use Rattle.nn_device.specs.declared.writer.OutputFault.TheVariants.{WriteFailed}
use Rattle.nn_run.specs.Shown.{printed_of}
use Rattle.nn_run.proofs.output.write_ready.Goals as goal

pub overflow_sub-written : goal.overflow_sub-written
overflow_sub-written g c =
    let w = c.args.writer.now in
    let took = c.in-Err.ensures.prefix w _ (c.put.ensures w [] (c.new-page.ensures w)) in
    omega (arith, c.taken-before.ensures, c.taken.ensures, took.counted)

pub returns-in-Ok-clause-ok : goal.returns-in-Ok-clause-ok
returns-in-Ok-clause-ok g c =
    let w = c.args.writer.now in
    (c.in-Ok.ensures.ok w _ (c.put.ensures w [] (c.new-page.ensures w)), c.end-run_end.ensures)

pub returns-in-Err-clause-prefix : goal.returns-in-Err-clause-prefix
returns-in-Err-clause-prefix g c =
    let w = c.args.writer.now in
    let took : TookPrefix w c.end.new.writer (printed_of c.args.ready).text WriteFailed =
    subst (TookPrefix w c.end.new.writer (printed_of c.args.ready).text) c.in-Err.ensures.cause (c.in-Err.ensures.prefix w _ (c.put.ensures w [] (c.new-page.ensures w))) in
    record { took = took; told = omega (arith, c.taken-before.ensures, c.taken.ensures, took.counted) }
