use Rattle.std.proofs.Common.{◌∙◌, arith}
use Rattle.std.proofs.lemmas.List.Sums.{prefix_len-le-length}
use Rattle.nn_bytes.specs.Runs.{is_unescaped_byte}
use Rattle.nn_bytes.proofs.Bytewise.{run_before_failing}
use Rattle.nn_bytes.proofs.unescaped.unescaped_in_block.Goals as goal

pub returns-clause-run : goal.returns-clause-run
returns-clause-run c = c.first_set.ensures ∙ run_before_failing is_unescaped_byte c.args.block _ c.requires c.escapes.ensures

pub returns-clause-bound : goal.returns-clause-bound
returns-clause-bound c =
    let run = c.first_set.ensures ∙ run_before_failing is_unescaped_byte c.args.block _ c.requires c.escapes.ensures in
    omega (arith, run, prefix_len-le-length is_unescaped_byte c.args.block, c.requires)
