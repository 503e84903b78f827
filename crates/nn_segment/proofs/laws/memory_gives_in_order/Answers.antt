use Rattle.nn_segment.proofs.Asks.{in_order}
use Rattle.nn_segment.proofs.laws.memory_gives_in_order.Goals as goal

pub returns : goal.returns
returns c = in_order
