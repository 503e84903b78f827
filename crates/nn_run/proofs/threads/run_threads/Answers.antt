use Rattle.std.proofs.Common.{true}
use Rattle.nn_input.specs.declared.fault.InputFault.TheVariants.{OutOfMemory}
use Rattle.nn_run.specs.Run.{running, unread}
use Rattle.nn_run.specs.Shown.{shown}
use Rattle.nn_run.proofs.WriteLemmas.{finishes, writes, writes_unread, is_output_of_all, is_no_memory}
use Rattle.nn_run.proofs.threads.run_threads.Goals as goal

pub returns-in-Err : goal.returns-in-Err
returns-in-Err g c =
    let w = writes_unread c.args.asked.now.options true c.args.input.now c.read_parts-read.new.input c.finish_unread.result c.args.writer.now c.finish_unread.new.writer
    c.in-Err.fault c.in-Err.ensures.why c.finish_unread.ensures.ok c.finish_unread.ensures.prefix in
    record { written = w.written; prefix = w.prefix; reads = c.reads.ensures.bounded }

pub returns-in-Ok-parts_by_threads : goal.returns-in-Ok-parts_by_threads
returns-in-Ok-parts_by_threads g c =
    let given = running c.args.asked.now.options true c.args.input.now c.read_parts-read.new.input in
    let all = c.in-Ok.ensures.whole in
    let p = shown c.args.asked.now.options c.in-Ok-parts_by_threads.output in
    let w = finishes given c.finish_output.result c.args.writer.now c.finish_output.new.writer p c.in-Ok.ensures.none_failed
    (is_output_of_all given p _ all c.in-Ok.ensures.end c.in-Ok.ensures.none_failed (c.in-Ok-parts_by_threads.ensures all.input all.is))
    c.finish_output.ensures.written c.finish_output.ensures.prefix in
    record { written = w.written; prefix = w.prefix; reads = c.reads.ensures.bounded }

pub returns-in-Err-parts_by_threads : goal.returns-in-Err-parts_by_threads
returns-in-Err-parts_by_threads g c =
    let given = running c.args.asked.now.options true c.args.input.now c.read_parts-read.new.input in
    let w = writes given c.no_memory.result c.args.writer.now c.no_memory.new.writer
    (unread OutOfMemory) (is_no_memory given c.in-Ok.ensures.none_failed)
    c.no_memory.ensures.ok c.no_memory.ensures.prefix in
    record { written = w.written; prefix = w.prefix; reads = c.reads.ensures.bounded }
