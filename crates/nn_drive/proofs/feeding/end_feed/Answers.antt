use Rattle.std.proofs.Common.{true≢false, sym, ◌∙◌}
use Rattle.nn_feed.specs.Ends.{got_by}
use Rattle.nn_feed.specs.Running.{then_last, last_in}
use Rattle.nn_drive.proofs.Fed.{told_same, met_source}
use Rattle.nn_drive.proofs.feeding.end_feed.Goals as goal

pub meet-requires : goal.meet-requires
meet-requires g c =
    let same = told_same g.T.SegmentSource.gives g.T.SegmentSource.failures c.args.feeding.promise.0.value c.args.feeding.promise.1.value c.join-source.result c.in-Ok.field-0 c.in-Ok.is c.join-source.ensures in
    c.requires.one_feed ∙ sym same

pub returns-in_default : goal.returns-in_default
returns-in_default g c =
    let h = c.join-source.ensures in (c.join-source.result.source, (then_last h.segments (last_in c.join-source.result.outcome), h.gave), h.not_fewer, λ e. absurd (true≢false (sym e)))

pub returns : goal.returns
returns g c =
    met_source g.T.SegmentSource.gives g.T.SegmentSource.failures c.args.feeding.promise.0.value c.args.feeding.promise.1.value c.join-source.result c.in-Ok.field-0 (got_by c.args.end) c.in-Ok.is c.join-source.ensures c.requires.new
    c.meet.ensures
