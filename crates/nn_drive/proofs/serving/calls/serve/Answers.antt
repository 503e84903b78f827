use Rattle.std.specs.Prelude.{IfOk, IfErr, Some}
use Rattle.std.proofs.Common.{refl, sym, subst}
use Rattle.nn_drive.specs.declared.driving.DriveFault.TheVariants as drive
use Rattle.nn_drive.proofs.Steps.{refused_before, serves, nothing_yet}
use Rattle.nn_drive.specs.Served.{IsServed, IsUnserved}
use Rattle.nn_drive.proofs.Unserves.{is_refused}
use Rattle.nn_drive.proofs.serving.calls.serve.Goals as goal

pub returns-in-Some-clause-err : goal.returns-in-Some-clause-err
returns-in-Some-clause-err g c =
    is_refused g.O.Operator.asks g.T.SegmentSource.gives g.T.SegmentSource.failures c.args.workers.items c.args.operator.now c.args.operator.now c.refused.result c.args.standby c.args.source (Some c.args.source) c.in-Some.fault c.refused.ensures.fault c.refused.ensures.rest refl (c.args.source, refused_before g.T.SegmentSource.gives g.T.SegmentSource.failures c.args.source c.args.standby c.in-Some.fault (sym c.in-Some.ensures))

pub returns-in_default-new-clause-err : goal.returns-in_default-new-clause-err
returns-in_default-new-clause-err g c =
    is_refused g.O.Operator.asks g.T.SegmentSource.gives g.T.SegmentSource.failures c.args.workers.items c.args.operator.now c.args.operator.now c.refused-in_default-new.result c.args.standby c.args.source (Some c.args.source) (drive.OutOfMemory) c.refused-in_default-new.ensures.fault c.refused-in_default-new.ensures.rest refl (c.args.source, nothing_yet g.T.SegmentSource.gives g.T.SegmentSource.failures c.args.source c.args.standby)

pub returns-in-Err-clause-err : goal.returns-in-Err-clause-err
returns-in-Err-clause-err g c =
    is_refused g.O.Operator.asks g.T.SegmentSource.gives g.T.SegmentSource.failures c.args.workers.items c.args.operator.now c.args.operator.now c.refused-in-Err.result c.args.standby c.args.source c.in-Err.back (drive.OutOfMemory) c.refused-in-Err.ensures.fault c.refused-in-Err.ensures.rest c.in-Err.ensures.back (c.args.source, nothing_yet g.T.SegmentSource.gives g.T.SegmentSource.failures c.args.source c.args.standby)

pub serve_with-requires-clause-serving : goal.serve_with-requires-clause-serving
serve_with-requires-clause-serving g c = λ _ _. serves c.args.standby (sym c.in_default.ensures)

pub serve_with-requires-clause-new : goal.serve_with-requires-clause-new
serve_with-requires-clause-new g c = λ _ _. c.in-Ok-start_feed.ensures.empty

pub returns-clause-ok : goal.returns-clause-ok
returns-clause-ok g c =
    subst (λ (s : g.row.T.Denot). IfOk c.serve_with.result (λ r. IsServed g.O.Operator.asks g.T.SegmentSource.gives g.T.SegmentSource.failures c.args.standby s c.args.workers.items c.args.operator.now c.serve_with.new.operator r))
    c.in-Ok-start_feed.ensures.source c.serve_with.ensures.ok

pub returns-clause-err : goal.returns-clause-err
returns-clause-err g c =
    subst (λ (s : g.row.T.Denot). IfErr c.serve_with.result (λ u. IsUnserved g.O.Operator.asks g.T.SegmentSource.gives g.T.SegmentSource.failures c.args.standby s c.args.workers.items c.args.operator.now c.serve_with.new.operator u))
    c.in-Ok-start_feed.ensures.source c.serve_with.ensures.err
