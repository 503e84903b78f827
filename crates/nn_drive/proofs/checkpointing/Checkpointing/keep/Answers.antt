use Rattle.std.proofs.Common.{◌∙◌, ap}
use Rattle.nn_drive.specs.Checkpoints.{Checkpointing}
use Rattle.nn_drive.proofs.Checkpoints.{left_ended}
use Rattle.nn_drive.proofs.checkpointing.Checkpointing.keep.Goals as goal

pub returns-in-Break-clause-left : goal.returns-in-Break-clause-left
returns-in-Break-clause-left g c =
    let none = ap (λ (s : Checkpointing _). s.in_hand) c.self.view_is ∙ c.requires in
    left_ended g.O.CheckpointOperator.hears c.args.self.now.operator c.self.inside.operator c.args.flow (c.in-Break.writer, c.in-Break.checkpoint) (record { operator = c.ended.new.self; rows = c.self.inside.rows; in_hand = c.self.inside.in_hand })
    (ap (λ (s : Checkpointing _). s.operator) c.self.view_is) c.in-Break.is none c.ended.ensures
