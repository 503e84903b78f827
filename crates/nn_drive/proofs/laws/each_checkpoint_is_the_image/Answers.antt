use Rattle.nn_drive.proofs.Checkpoints.{each_is_the_image}
use Rattle.nn_drive.proofs.laws.each_checkpoint_is_the_image.Goals as goal

pub returns : goal.returns
returns g c = each_is_the_image g.W.Write.contents g.O.CheckpointOperator.hears g.O.CheckpointOperator.wants g.O.Operator.asks
