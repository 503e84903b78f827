use Rattle.std.proofs.Common.{ap, ◌∙◌, false, inl, refl}
use Rattle.nn_feed.specs.Ends.{got_by}
use Rattle.nn_lane_standby.specs.Tailing.{has_begun}
use Rattle.nn_drive.specs.Feeding.{failures_of}
use Rattle.nn_drive.specs.declared.driving.DriveFault.TheVariants as drive
use Rattle.nn_drive.proofs.Fed.{same_then, same_asked, nothing_begun, fails_over, got_none}
use Rattle.nn_drive.proofs.Serves.{comes_back_before, comes_back_open, comes_back_closed, fails_closed, promotes_over}
use Rattle.nn_drive.proofs.rotation.Rotation.serve_over.Goals as goal

pub returns-then-not-all_started-clause-err : goal.returns-then-not-all_started-clause-err
returns-then-not-all_started-clause-err g c =
    nothing_begun c.args.standby.now c.args.end.now c.args.end.now c.args.end.now false drive.OutOfMemory (inl refl) (got_none (got_by c.args.end.now))

pub returns-then-not-all_started-clause-back : goal.returns-then-not-all_started-clause-back
returns-then-not-all_started-clause-back g c = comes_back_before g.O.Operator.asks c.args.self.now.started c.args.workers c.requires.few c.args.standby.now c.args.end.now c.args.operator.now c.args.operator.now refl

pub returns-in-Err-clause-same : goal.returns-in-Err-clause-same
returns-in-Err-clause-same g c = let e = c.in-Err.ensures.gone.went in same_asked c.args.end.now c.rotate.new.end e.0 e.1

pub returns-in-Err-clause-err : goal.returns-in-Err-clause-err
returns-in-Err-clause-err g c =
    fails_over c.args.standby.now c.args.end.now c.rotate.new.end c.rotate.new.end failures_of c.in-Err.fault c.told_fault.result c.requires.serving c.in-Err.ensures.until c.told_fault.ensures (got_none (got_by c.rotate.new.end))

pub returns-in-Err-clause-back : goal.returns-in-Err-clause-back
returns-in-Err-clause-back g c =
    let e = c.in-Err.ensures.gone.went in
    comes_back_open g.O.Operator.asks c.args.self.now.started c.args.workers c.requires.few c.args.standby.now c.args.end.now c.args.operator.now c.rotate.new.operator c.rotate.new.standby c.rotate.new.end c.in-Err.ensures.gone.shown e.0 e.1 e.2 c.in-Err.ensures.gone.was

pub returns-in-Ok-clause-same : goal.returns-in-Ok-clause-same
returns-in-Ok-clause-same g c =
    let e = c.in_default.ensures.requested.went in let p = c.in-Ok.ensures.ok in
    same_then c.args.end.now c.rotate.new.end c.promote.new.source (same_asked c.args.end.now c.rotate.new.end e.0 e.1) (same_asked c.rotate.new.end c.promote.new.source p.0 p.1)

pub returns-in-Ok-clause-ok : goal.returns-in-Ok-clause-ok
returns-in-Ok-clause-ok g c =
    let e = c.in_default.ensures.requested.went in let k = c.close_intake.ensures in
    promotes_over g.O.Operator.asks c.args.self.now.started c.args.workers c.requires.few c.args.standby.now c.args.end.now c.args.operator.now c.rotate.new.operator c.rotate.new.standby c.rotate.new.end c.in_default.ensures.requested.shown e.0 e.1 e.2 c.in_default.ensures.requested.was c.close_intake.new.self c.promote.new.standby c.promote.new.source
    k.ends k.closed k.rest k.carries c.in-Ok.active c.in-Ok.ensures.ok

pub returns-in-Err-promote-clause-same : goal.returns-in-Err-promote-clause-same
returns-in-Err-promote-clause-same g c =
    let e = c.in_default.ensures.requested.went in let p = c.in-Err-promote.ensures.err in
    same_then c.args.end.now c.rotate.new.end c.promote.new.source (same_asked c.args.end.now c.rotate.new.end e.0 e.1) (same_asked c.rotate.new.end c.promote.new.source p.0 p.1)

pub returns-in-Err-promote-clause-err : goal.returns-in-Err-promote-clause-err
returns-in-Err-promote-clause-err g c =
    let e = c.in_default.ensures.requested.went in let k = c.close_intake.ensures in
    fails_closed g.O.Operator.asks c.args.self.now.started c.args.workers c.requires.few c.args.standby.now c.args.end.now c.args.operator.now c.rotate.new.operator c.rotate.new.standby c.rotate.new.end c.in_default.ensures.requested.shown e.0 e.1 e.2 c.in_default.ensures.requested.was c.close_intake.new.self c.promote.new.standby c.promote.new.source
    k.ends k.closed k.rest k.carries c.in-Err-promote.fault c.told_fault-in-Err-promote.result c.requires.serving e.3 c.in-Err-promote.ensures.err c.told_fault-in-Err-promote.ensures

pub returns-in-Err-promote-clause-back : goal.returns-in-Err-promote-clause-back
returns-in-Err-promote-clause-back g c =
    let e = c.in_default.ensures.requested.went in let k = c.close_intake.ensures in
    comes_back_closed g.O.Operator.asks c.args.self.now.started c.args.workers c.requires.few c.args.standby.now c.args.end.now c.args.operator.now c.rotate.new.operator c.rotate.new.standby c.rotate.new.end c.in_default.ensures.requested.shown e.0 e.1 e.2 c.in_default.ensures.requested.was c.close_intake.new.self c.promote.new.standby c.promote.new.source
    k.ends k.closed k.rest k.carries c.in-Err-promote.ensures.stayed

pub promote-requires-clause-serving : goal.promote-requires-clause-serving
promote-requires-clause-serving g c = ap has_begun c.close_intake.ensures.rest ∙ c.in_default.ensures.requested.went.2.begun ∙ c.requires.serving
