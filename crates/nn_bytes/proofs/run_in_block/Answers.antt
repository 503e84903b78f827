use Rattle.std.proofs.Common.{arith}
use Rattle.nn_bytes.proofs.Blocks.{first_is, second_is}
use Rattle.nn_bytes.proofs.run_in_block.Goals as goal

pub returns-then-first-second-clause-run : goal.returns-then-first-second-clause-run
returns-then-first-second-clause-run c =
    first_is c.args.block c.args.a c.args.b _ _ c.run_before_one-first.ensures.run c.run_before_one-second.ensures.run (omega (arith, c.if-first-second.true))

pub returns-else-first-second-clause-run : goal.returns-else-first-second-clause-run
returns-else-first-second-clause-run c =
    second_is c.args.block c.args.a c.args.b _ _ c.run_before_one-first.ensures.run c.run_before_one-second.ensures.run (omega (arith, c.if-first-second.false))
