use Rattle.std.proofs.Common.{arith}
use Rattle.nn_drive.proofs.Sends.{sends_one, looked_once}
use Rattle.nn_drive.proofs.reporting.report_one.Goals as goal

pub returns-then-not-is_full-clause-done : goal.returns-then-not-is_full-clause-done
returns-then-not-is_full-clause-done g c =
    sends_one c.args.reporter.now c.loop.reporter c.report-answer.new.self c.args.report.now c.loop.invariant.0 c.loop.invariant.1 c.report-answer.result c.report-answer.ensures.ok c.report-answer.ensures.refused c.if-not-is_full.ensures

pub returns-then-not-is_full-clause-looks : goal.returns-then-not-is_full-clause-looks
returns-then-not-is_full-clause-looks g c =
    let once = looked_once c.args.reporter.now c.loop.reporter c.report-answer.new.self c.args.report.now c.loop.invariant.0 c.loop.invariant.1 c.report-answer.result c.report-answer.ensures.ok c.report-answer.ensures.refused in
    omega (arith, once, c.loop.invariant.2, c.report-answer.ensures.lane.2)
