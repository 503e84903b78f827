use Rattle.nn_live.proofs.laws.block_tells_the_path.Goals as goal
use Rattle.nn_live.proofs.Holders as holders

pub returns : goal.returns
returns c = holders.block_tells_the_path
