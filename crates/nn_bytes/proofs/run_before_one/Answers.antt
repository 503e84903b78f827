use Rattle.std.proofs.Common.{◌≡◌, ◌==◌, cond, ap, ◌∙◌, arith}
use Rattle.std.specs.List.{prefix_len}
use Rattle.std.proofs.lemmas.List.Sums.{prefix_len-le-length}
use lib.Count.{count_trailing_zeros}
use Rattle.nn_bytes.specs.Runs.{is_other}
use Rattle.nn_bytes.proofs.Blocks.{masked, run_of}
use Rattle.nn_bytes.proofs.run_before_one.Goals as goal

pub returns-clause-run : goal.returns-clause-run
returns-clause-run c = c.first_set.ensures ∙ ap (λ m. cond (m == 0) 16 (count_trailing_zeros 64 m)) (masked c.args.block c.args.byte c.requires) ∙ run_of c.args.block c.args.byte c.requires

pub returns-clause-bound : goal.returns-clause-bound
returns-clause-bound c =
    let run : c.first_set.result ≡ prefix_len (is_other c.args.byte) c.args.block = c.first_set.ensures ∙ ap (λ m. cond (m == 0) 16 (count_trailing_zeros 64 m)) (masked c.args.block c.args.byte c.requires) ∙ run_of c.args.block c.args.byte c.requires in
    omega (arith, run, prefix_len-le-length (is_other c.args.byte) c.args.block, c.requires)
