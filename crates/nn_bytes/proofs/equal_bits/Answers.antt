use Rattle.nn_bytes.proofs.Blocks.{masked}
use Rattle.nn_bytes.proofs.equal_bits.Goals as goal

pub returns : goal.returns
returns c = masked c.args.block c.args.byte c.requires
