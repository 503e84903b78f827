use Rattle.std.proofs.Common.{◌∙◌, ap}
use Rattle.nn_drive.specs.Checkpoints.{Checkpointing, request_with}
use Rattle.nn_drive.proofs.Checkpoints.{continued, promoted}
use Rattle.nn_drive.proofs.checkpointing.CheckpointingOperator.ask.Goals as goal

pub returns-in-Promote : goal.returns-in-Promote
returns-in-Promote g c =
    promoted g.W.Write.contents g.O.CheckpointOperator.hears g.O.CheckpointOperator.wants g.O.Operator.asks c.args.self.now (record { operator = c.self.inside.operator; rows = c.self.inside.rows; in_hand = c.self.inside.in_hand })
    c.args.standby.now c.args.running c.ask-request.result c.ask-request.new.self c.call_off.new.self c.self.view_is c.ask-request.ensures c.in-Promote.is c.call_off.ensures.called c.call_off.ensures.rows

pub returns : goal.returns
returns g c =
    continued g.W.Write.contents g.O.CheckpointOperator.hears g.O.CheckpointOperator.wants g.O.Operator.asks c.args.self.now (record { operator = c.self.inside.operator; rows = c.self.inside.rows; in_hand = c.self.inside.in_hand })
    c.args.standby.now c.args.running c.ask-request.result c.request_with.result c.ask-request.new.self c.go_on.new.self c.self.view_is c.ask-request.ensures c.in_default.not-Promote c.go_on.ensures.continued (c.request_with.ensures ∙ ap (λ (s : Checkpointing _). request_with s.in_hand c.ask-request.result) c.self-2.view_is) c.go_on.ensures.rows
