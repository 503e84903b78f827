use Rattle.std.proofs.Common.{[], Ok, refl, subst, ◌∷◌}
use Rattle.std.proofs.lemmas.Result.{err_from_is_err_and}
use Rattle.nn_segment.specs.declared.cursor.TakenUp.{TakenUp}
use Rattle.nn_lane_standby.specs.Steps.{OnceAsked}
use Rattle.nn_lane_standby.proofs.Edited.{ready_now, applied_then, refused_then, asked_then, ended_then, passed_then, new_asked}
use Rattle.nn_lane_standby.proofs.standby.Standby.step_edit.Goals as goal

pub returns-in_err-apply_next-clause-edits : goal.returns-in_err-apply_next-clause-edits
returns-in_err-apply_next-clause-edits g c =
    let k = refused_then g.S.SegmentSource.gives c.args.source.now c.args.source.now c.args.self.now c.args.self.now c.apply_next.new.self [] c.in_err-apply_next.field-0.0 c.requires refl (ready_now c.args.self.now c.requires) c.in_err-apply_next.ensures.err in
    let p = err_from_is_err_and c.from_residual.result c.from_residual.ensures.1 in rw (p.1, p.2) k

pub returns-then-not-has_none-clause-edits : goal.returns-then-not-has_none-clause-edits
returns-then-not-has_none-clause-edits g c =
    applied_then g.S.SegmentSource.gives c.args.source.now c.args.source.now c.args.self.now c.args.self.now c.apply_next.new.self [] c.in_ok-apply_next.field-0 c.requires refl (ready_now c.args.self.now c.requires) c.in_ok-apply_next.ensures.ok

pub returns-in_err-ask-clause-edits : goal.returns-in_err-ask-clause-edits
returns-in_err-ask-clause-edits g c =
    let q = c.in_err-ask.ensures.asked in
    let k = asked_then g.S.SegmentSource.gives c.args.source.now c.ask.new.source c.args.self.now c.ask.new.self q.0 c.in_err-ask.field-0.0 c.requires c.if-not-has_none.ensures q.1 q.2 in
    let p = err_from_is_err_and c.from_residual-in_err-ask.result c.from_residual-in_err-ask.ensures.1 in rw (p.1, p.2) k

pub returns-in_err-apply_next-in-New-clause-edits : goal.returns-in_err-apply_next-in-New-clause-edits
returns-in_err-apply_next-in-New-clause-edits g c =
    let q = c.in_ok-ask.ensures.asked in
    let h = new_asked g.S.SegmentSource.gives c.args.source.now c.ask.new.source c.args.self.now c.ask.new.self q.0 c.requires c.if-not-has_none.ensures q.1 (subst (λ (z : TakenUp). OnceAsked c.args.self.now q.0 c.ask.new.self (Ok z)) c.in-New.is q.2) in
    let k = refused_then g.S.SegmentSource.gives c.args.source.now c.ask.new.source c.args.self.now c.ask.new.self c.apply_next-in-New.new.self (q.0 ∷ []) c.in_err-apply_next-in-New.field-0.0 c.requires h.0 h.1 c.in_err-apply_next-in-New.ensures.err in
    let p = err_from_is_err_and c.from_residual-in_err-apply_next-in-New.result c.from_residual-in_err-apply_next-in-New.ensures.1 in rw (p.1, p.2) k

pub returns-in-End-clause-edits : goal.returns-in-End-clause-edits
returns-in-End-clause-edits g c =
    let q = c.in_ok-ask.ensures.asked in
    ended_then g.S.SegmentSource.gives c.args.source.now c.ask.new.source c.args.self.now c.ask.new.self q.0 c.requires c.if-not-has_none.ensures q.1 (subst (λ (z : TakenUp). OnceAsked c.args.self.now q.0 c.ask.new.self (Ok z)) c.in-End.is q.2)

pub returns-in-Old-clause-edits : goal.returns-in-Old-clause-edits
returns-in-Old-clause-edits g c =
    let q = c.in_ok-ask.ensures.asked in
    passed_then g.S.SegmentSource.gives c.args.source.now c.ask.new.source c.args.self.now c.ask.new.self q.0 c.requires c.if-not-has_none.ensures q.1 (subst (λ (z : TakenUp). OnceAsked c.args.self.now q.0 c.ask.new.self (Ok z)) c.in-Old.is q.2)

pub returns-in_ok-apply_next-in-New-clause-edits : goal.returns-in_ok-apply_next-in-New-clause-edits
returns-in_ok-apply_next-in-New-clause-edits g c =
    let q = c.in_ok-ask.ensures.asked in
    let h = new_asked g.S.SegmentSource.gives c.args.source.now c.ask.new.source c.args.self.now c.ask.new.self q.0 c.requires c.if-not-has_none.ensures q.1 (subst (λ (z : TakenUp). OnceAsked c.args.self.now q.0 c.ask.new.self (Ok z)) c.in-New.is q.2) in
    applied_then g.S.SegmentSource.gives c.args.source.now c.ask.new.source c.args.self.now c.ask.new.self c.apply_next-in-New.new.self (q.0 ∷ []) c.in_ok-apply_next-in-New.field-0 c.requires h.0 h.1 c.in_ok-apply_next-in-New.ensures.ok
