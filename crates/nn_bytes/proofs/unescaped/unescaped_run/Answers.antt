use Rattle.std.proofs.Common.{◌≡◌, ◌+◌, ◌≤◌, length, take, drop, ap, ◌∙◌, arith}
use Rattle.std.specs.List.{prefix_len}
use Rattle.nn_bytes.specs.Runs.{is_unescaped_byte}
use Rattle.nn_bytes.proofs.Blocks.{whole_block, in_block}
use Rattle.nn_bytes.proofs.PrintableRuns.{last_block}
use Rattle.nn_bytes.proofs.unescaped.unescaped_run.Goals as goal

pub returns-then-run-lt16-clause-run : goal.returns-then-run-lt16-clause-run
returns-then-run-lt16-clause-run c =
    let p = is_unescaped_byte in
    let d = c.args.text.now in
    let i = c.blocks-2.i in
    let room : i + 16 ≤ length d = omega (arith, c.blocks-2.invariant.bound, c.blocks-2-test.true) in
    let run : c.unescaped_in_block-run.result ≡ prefix_len p (take 16 (drop i d)) = c.unescaped_in_block-run.ensures.run ∙ ap (prefix_len p) c.block_at.ensures in
    let here = in_block p d i room (omega (arith, run, c.if-run-lt16.true)) in
    omega (arith, c.blocks-2.invariant.run, run, here)

pub blocks-2-preserved : goal.blocks-2-preserved
blocks-2-preserved c =
    let p = is_unescaped_byte in
    let d = c.args.text.now in
    let i = c.blocks-2.i in
    let room : i + 16 ≤ length d = omega (arith, c.blocks-2.invariant.bound, c.blocks-2-test.true) in
    let run : c.unescaped_in_block-run.result ≡ prefix_len p (take 16 (drop i d)) = c.unescaped_in_block-run.ensures.run ∙ ap (prefix_len p) c.block_at.ensures in
    let whole = whole_block p d i room (omega (arith, run, c.unescaped_in_block-run.ensures.bound, c.if-run-lt16.false)) in
    record { run = omega (arith, c.blocks-2.invariant.run, whole); bound = room }

pub returns-then-text-ge16-clause-run : goal.returns-then-text-ge16-clause-run
returns-then-text-ge16-clause-run c =
    last_block is_unescaped_byte c.args.text.now _ c.blocks-2.i _ _ (omega (arith, c.if-text-ge16.true)) (omega (arith, c.blocks-2-test.false, c.blocks-2.invariant.bound)) c.blocks-2.invariant.run c.block_at-then-text-ge16.ensures c.unescaped_in_block.ensures.run
