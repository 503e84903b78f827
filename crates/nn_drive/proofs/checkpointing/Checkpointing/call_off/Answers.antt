use Rattle.std.proofs.Common.{◌∙◌, ap, sym}
use Rattle.nn_drive.specs.Checkpoints.{Checkpointing}
use Rattle.nn_drive.proofs.Checkpoints.{called}
use Rattle.nn_drive.proofs.checkpointing.Checkpointing.call_off.Goals as goal

pub returns-in-Some-clause-called : goal.returns-in-Some-clause-called
returns-in-Some-clause-called g c =
    let hand = sym (ap (λ (s : Checkpointing _). s.in_hand) c.self.view_is) ∙ sym c.take.ensures.value ∙ c.in-Some.is in
    called g.W.Write.contents g.O.CheckpointOperator.hears c.args.self.now.operator c.self.inside.operator c.args.self.now.in_hand c.in-Some.begun c.call_off-writer.result (record { operator = c.ended.new.self; rows = c.self.inside.rows; in_hand = c.take.new.self })
    (ap (λ (s : Checkpointing _). s.operator) c.self.view_is) hand c.call_off-writer.ensures c.take.ensures.after c.ended.ensures
