use Rattle.std.proofs.Common.{[]}
use Rattle.std.proofs.lemmas.Result.{err_from_is_err_and}
use Rattle.nn_lane_standby.proofs.Logs.{going_live, going_on, going_applied, over_on, over_refused, own_fault}
use Rattle.nn_lane_standby.proofs.standby.Standby.apply_rest.Goals as goal

pub loop-self-preserved : goal.loop-self-preserved
loop-self-preserved c =
    going_on c.args.self.now c.loop-self.self c.apply_next.new.self [] c.loop-self.invariant
    (going_applied c.loop-self.self c.apply_next.new.self c.in_ok-apply_next.field-0 (going_live c.args.self.now c.loop-self.self [] c.requires c.loop-self.invariant) c.in_ok-apply_next.ensures.ok)

pub returns-in_err-apply_next-clause-edits : goal.returns-in_err-apply_next-clause-edits
returns-in_err-apply_next-clause-edits c =
    let k = over_on c.args.self.now c.loop-self.self c.apply_next.new.self [] c.in_err-apply_next.field-0.0 c.loop-self.invariant
    (over_refused c.loop-self.self c.apply_next.new.self c.in_err-apply_next.field-0.0 (going_live c.args.self.now c.loop-self.self [] c.requires c.loop-self.invariant) c.in_err-apply_next.ensures.err) in
    let p = err_from_is_err_and c.from_residual.result c.from_residual.ensures.1 in rw (p.1, p.2) k

pub returns-in_err-apply_next-clause-own : goal.returns-in_err-apply_next-clause-own
returns-in_err-apply_next-clause-own c =
    let k = own_fault c.loop-self.self c.apply_next.new.self c.in_err-apply_next.field-0.0 c.in_err-apply_next.ensures.err in
    let p = err_from_is_err_and c.from_residual.result c.from_residual.ensures.1 in rw (p.1, p.2) k
