use Rattle.std.proofs.Common.{◌∙◌, arith}
use Rattle.std.proofs.lemmas.List.Sums.{prefix_len-le-length}
use Rattle.std.specs.Char.{is_ascii_digit}
use Rattle.nn_bytes.proofs.Bytewise.{run_before_failing}
use Rattle.nn_bytes.proofs.digits.digit_run.Goals as goal

pub returns-clause-run : goal.returns-clause-run
returns-clause-run c = c.first_set.ensures ∙ run_before_failing is_ascii_digit c.args.block _ c.requires c.others.ensures

pub returns-clause-bound : goal.returns-clause-bound
returns-clause-bound c =
    let run = c.first_set.ensures ∙ run_before_failing is_ascii_digit c.args.block _ c.requires c.others.ensures in
    omega (arith, run, prefix_len-le-length is_ascii_digit c.args.block, c.requires)
