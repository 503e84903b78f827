use Rattle.std.proofs.Common.{sym}
use Rattle.std.proofs.lemmas.Result.{err_from_is_err_and}
use Rattle.nn_lane_standby.proofs.LaneSteps.{fetched_is, step_frame, step_hands, step_fault, step_empty, frame_none}
use Rattle.nn_lane_standby.proofs.standby.Standby.step_at.Goals as goal

pub hand_undelivered-requires-clause-undelivered : goal.hand_undelivered-requires-clause-undelivered
hand_undelivered-requires-clause-undelivered c =
    (fetched_is c.args.self.now c.fetch.new.self c.args.i c.in-Ok.m c.requires.live c.recall_invariant.ensures c.requires.place c.in-Ok.ensures.ok).0

pub returns-in_err-processed-in-Ok-clause-frame : goal.returns-in_err-processed-in-Ok-clause-frame
returns-in_err-processed-in-Ok-clause-frame c =
    (step_fault c.args.self.now c.fetch.new.self c.hand_undelivered.new.self c.args.i c.in-Ok.m c.in_err-processed-in-Ok.field-0.0 c.requires.live c.recall_invariant.ensures c.requires.place c.in-Ok.ensures.ok c.in_err-processed-in-Ok.ensures.err).0

pub returns-in_ok-processed-in-Ok-clause-frame : goal.returns-in_ok-processed-in-Ok-clause-frame
returns-in_ok-processed-in-Ok-clause-frame c =
    step_frame c.args.self.now c.fetch.new.self c.hand_undelivered.new.self c.args.i c.in-Ok.m c.requires.live c.recall_invariant.ensures c.recall_invariant-in-Ok.ensures c.requires.place c.in-Ok.ensures.ok c.in_ok-processed-in-Ok.ensures.ok

pub returns-in_ok-processed-in-Ok-clause-moves : goal.returns-in_ok-processed-in-Ok-clause-moves
returns-in_ok-processed-in-Ok-clause-moves c =
    step_hands c.args.self.now c.fetch.new.self c.hand_undelivered.new.self c.args.i c.in-Ok.m c.in_ok-processed-in-Ok.field-0 c.requires.live c.recall_invariant.ensures c.recall_invariant-in-Ok.ensures c.requires.place c.in-Ok.ensures.ok c.in_ok-processed-in-Ok.ensures.ok
    (sym c.in_ok-processed-in-Ok.ensures.answer)

pub returns-in-Err-clause-frame : goal.returns-in-Err-clause-frame
returns-in-Err-clause-frame c =
    frame_none c.args.self.now c.fetch.new.self c.args.i c.requires.live c.recall_invariant.ensures c.requires.place c.in-Err.accepted c.in-Err.ensures.err

pub returns-in-Err-clause-moves : goal.returns-in-Err-clause-moves
returns-in-Err-clause-moves c =
    step_empty c.args.self.now c.fetch.new.self c.args.i c.in-Err.accepted c.recall_invariant.ensures c.requires.place c.in-Err.ensures.err

pub returns-in_err-processed-in-Ok-clause-moves : goal.returns-in_err-processed-in-Ok-clause-moves
returns-in_err-processed-in-Ok-clause-moves c =
    let k = (step_fault c.args.self.now c.fetch.new.self c.hand_undelivered.new.self c.args.i c.in-Ok.m c.in_err-processed-in-Ok.field-0.0 c.requires.live c.recall_invariant.ensures c.requires.place c.in-Ok.ensures.ok c.in_err-processed-in-Ok.ensures.err).1 in
    let p = err_from_is_err_and c.from_residual.result c.from_residual.ensures.1 in rw (p.1, p.2) k
