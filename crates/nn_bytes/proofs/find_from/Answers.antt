use Rattle.std.proofs.Common.{◌+◌, ◌≤◌, length, arith}
use Rattle.nn_bytes.specs.Runs.{is_other}
use Rattle.nn_bytes.proofs.Blocks.{whole_block, in_block}
use Rattle.nn_bytes.proofs.find_from.Goals as goal

pub returns-then-run-lt16-clause-run : goal.returns-then-run-lt16-clause-run
returns-then-run-lt16-clause-run c =
    let p = is_other c.args.byte in
    let d = c.args.text.now in
    let i = c.blocks-2.i in
    let room : i + 16 ≤ length d = omega (arith, c.blocks-2.invariant.bound, c.blocks-2-test.true) in
    let run = c.run_in_16-run.ensures.run in
    let here = in_block p d i room (omega (arith, run, c.if-run-lt16.true)) in
    omega (arith, c.blocks-2.invariant.run, run, here)

pub blocks-2-preserved : goal.blocks-2-preserved
blocks-2-preserved c =
    let p = is_other c.args.byte in
    let d = c.args.text.now in
    let i = c.blocks-2.i in
    let room : i + 16 ≤ length d = omega (arith, c.blocks-2.invariant.bound, c.blocks-2-test.true) in
    let run = c.run_in_16-run.ensures.run in
    let whole = whole_block p d i room (omega (arith, run, c.run_in_16-run.ensures.bound, c.if-run-lt16.false)) in
    record { run = omega (arith, c.blocks-2.invariant.run, whole); bound = room }
