use Rattle.std.proofs.Common.{◌∙◌, subst}
use Rattle.nn_feed.specs.Ends.{got_by}
use Rattle.nn_drive.specs.Feeding.{HasAnswered}
use Rattle.nn_drive.proofs.Fed.{not_met, drive_ok, drive_err}
use Rattle.nn_drive.proofs.Steps.{nothing_yet}
use Rattle.nn_drive.proofs.crew.Crew.drive_in.Goals as goal

pub returns-in_default-clause-err : goal.returns-in_default-clause-err
returns-in_default-clause-err g c = (c.args.source, nothing_yet g.T.SegmentSource.gives g.T.SegmentSource.failures c.args.source c.args.standby)

pub returns-in_default-start_feed-clause-err : goal.returns-in_default-start_feed-clause-err
returns-in_default-start_feed-clause-err g c = (c.args.source, nothing_yet g.T.SegmentSource.gives g.T.SegmentSource.failures c.args.source c.args.standby)

pub end_feed-requires-clause-one_feed : goal.end_feed-requires-clause-one_feed
end_feed-requires-clause-one_feed g c = c.run-outcome.ensures.same ∙ c.in-Some.feeding.one_feed

pub end_feed-requires-clause-new : goal.end_feed-requires-clause-new
end_feed-requires-clause-new g c = c.in-Some.feeding.new

pub returns-then-not-end_feed-clause-err : goal.returns-then-not-end_feed-clause-err
returns-then-not-end_feed-clause-err g c =
    let gives = g.T.SegmentSource.gives in let failures = g.T.SegmentSource.failures in let got = got_by c.run-outcome.new.end in
    not_met gives failures c.args.source c.args.standby got c.end_feed.result (subst (λ s. HasAnswered gives failures s got c.end_feed.result) c.in-Some.ensures.source c.end_feed.ensures)

pub returns-clause-ok : goal.returns-clause-ok
returns-clause-ok g c =
    let gives = g.T.SegmentSource.gives in let failures = g.T.SegmentSource.failures in let e2 = c.run-outcome.new.end in
    drive_ok gives failures g.S.ReportSource.gives c.args.standby c.args.source c.args.workers.items c.in-Some.feeding.end e2 c.in-Some.ensures.empty c.end_feed.result c.if-not-end_feed.false
    (subst (λ s. HasAnswered gives failures s (got_by e2) c.end_feed.result) c.in-Some.ensures.source c.end_feed.ensures) c.run-outcome.result c.run-outcome.ensures.ok

pub returns-clause-err : goal.returns-clause-err
returns-clause-err g c =
    let gives = g.T.SegmentSource.gives in let failures = g.T.SegmentSource.failures in let e2 = c.run-outcome.new.end in
    drive_err gives failures g.S.ReportSource.gives c.args.standby c.args.source c.args.workers.items c.in-Some.feeding.end e2 c.in-Some.ensures.empty c.end_feed.result c.if-not-end_feed.false
    (subst (λ s. HasAnswered gives failures s (got_by e2) c.end_feed.result) c.in-Some.ensures.source c.end_feed.ensures) c.run-outcome.result c.run-outcome.ensures.err
