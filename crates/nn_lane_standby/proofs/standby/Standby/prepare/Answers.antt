use Rattle.std.proofs.Common.{◌≡◌, []}
use Rattle.std.proofs.lemmas.Result.{err_from_is_err_and}
use Rattle.nn_lane_standby.specs.Tailing.{EndsInEnd}
use Rattle.nn_lane_standby.proofs.Logs.{going_done}
use Rattle.nn_lane_standby.proofs.Prepared.{prepare_unread, prepare_done}
use Rattle.nn_lane_standby.proofs.standby.Standby.prepare.Goals as goal

pub returns-in_err-read_log-clause-prepares : goal.returns-in_err-read_log-clause-prepares
returns-in_err-read_log-clause-prepares g c =
    let q = c.in_err-read_log.ensures.edits in
    let k = prepare_unread c.args.self.now c.read_log.new.self q.0 (EndsInEnd q.0 × (c.read_log.new.self.rest ≡ [])) c.in_err-read_log.field-0.0 q.2 in
    let p = err_from_is_err_and c.from_residual.result c.from_residual.ensures.1 in rw (p.1, p.2) (q.0, q.1, k)

pub returns-clause-prepares : goal.returns-clause-prepares
returns-clause-prepares g c =
    let q = c.in_ok-read_log.ensures.edits in
    let d = going_done c.args.self.now c.read_log.new.self q.0 _ q.2 in
    (q.0, q.1, prepare_done c.args.self.now c.read_log.new.self c.drain_all.new.self q.0 c.requires.closed c.recall_invariant.ensures d.0 d.1 c.in_ok-drain_all.ensures.frame c.in_ok-drain_all.ensures.ok)
