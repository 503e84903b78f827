use Rattle.std.specs.Prelude.{vec_items, length}
use Rattle.std.specs.List.{AllZip}
use Rattle.std.proofs.Common.{◌≡◌, ℕ, ◌≤◌, List, arith, inr, refl, sym, ◌∙◌, subst}
use Rattle.nn_feed.specs.Ends.{got_by}
use Rattle.nn_lane.specs.Ends.{LaneEnd}
use Rattle.nn_drive.specs.Served.{PromotesOver, ComesBack}
use Rattle.nn_drive.specs.Serving.{IsOf}
use Rattle.nn_drive.proofs.Fed.{not_met}
use Rattle.nn_drive.proofs.Serves.{are_of, served}
use Rattle.nn_drive.proofs.crew.ServiceCrew.serve_with.Goals as goal

pub end_feed-requires-clause-one_feed : goal.end_feed-requires-clause-one_feed
end_feed-requires-clause-one_feed g c = c.serve_over.ensures.same ∙ c.args.feeding.one_feed

pub end_feed-requires-clause-new : goal.end_feed-requires-clause-new
end_feed-requires-clause-new g c = c.args.feeding.new

pub returns-in-Err-clause-err : goal.returns-in-Err-clause-err
returns-in-Err-clause-err g c =
    let count : c.len-count.result ≡ length c.args.workers.items = omega (arith, c.len-count.ensures, c.args.workers.ok.0) in record {
      started = c.start_all-handles.ensures;
      source_back = tt;
      why = (refl, (c.args.feeding.end, c.requires.new, c.in-Err.ensures.err));
      back = (
        c.args.feeding.end,
        c.requires.new,
        subst (λ (n : ℕ). ComesBack g.O.Operator.asks n c.args.standby c.args.feeding.end c.args.operator.now c.serve_over.new.standby c.serve_over.new.end c.serve_over.new.operator) count c.in-Err.ensures.back,
      );
    }

pub returns-then-not-end_feed-clause-err : goal.returns-then-not-end_feed-clause-err
returns-then-not-end_feed-clause-err g c =
    let count : c.len-count.result ≡ length c.args.workers.items = omega (arith, c.len-count.ensures, c.args.workers.ok.0) in
    let d = subst (λ (n : ℕ). PromotesOver g.O.Operator.asks n c.args.standby c.args.feeding.end c.args.operator.now c.in-Ok.active c.serve_over.new.standby c.serve_over.new.end c.serve_over.new.operator) count c.in-Ok.ensures.ok in record {
      started = c.start_all-handles.ensures;
      source_back = tt;
      why = not_met g.T.SegmentSource.gives g.T.SegmentSource.failures c.args.feeding.handle.promise.0.value c.args.standby (got_by c.serve_over.new.end) c.end_feed.result c.end_feed.ensures;
      back = inr (record { fault = refl; answers = d.answers; shown = d.shown; requested = d.requested; ended = d.ended; promoted = d.promoted; lanes = d.lanes; closed = d.closed });
    }

pub pair-workers-requires-clause-own : goal.pair-workers-requires-clause-own
pair-workers-requires-clause-own g c =
    let workers = c.args.workers.items in let handles = vec_items c.start_all-handles.result in
    let d = c.in-Ok.ensures.ok in
    let all : length workers ≤ length handles = omega (arith, c.in-Ok.ensures.started, c.len-count.ensures, c.len.ensures, c.args.workers.ok.0, c.start_all-handles.result.ok.0) in
    subst (λ (es : List LaneEnd). AllZip IsOf es handles) (sym c.into_parts-shadow.ensures.1)
    (are_of workers handles c.start_all-handles.ensures.0 all c.args.standby.ends c.serve_over.new.standby.ends c.requires.lanes d.lanes d.closed)

pub pair-workers-requires-clause-room : goal.pair-workers-requires-clause-room
pair-workers-requires-clause-room g c = omega (arith, c.start_all-handles.ensures.0.0, c.requires.room)

pub returns-clause-ok : goal.returns-clause-ok
returns-clause-ok g c =
    let count : c.len-count.result ≡ length c.args.workers.items = omega (arith, c.len-count.ensures, c.args.workers.ok.0) in
    let d = subst (λ (n : ℕ). PromotesOver g.O.Operator.asks n c.args.standby c.args.feeding.end c.args.operator.now c.in-Ok.active c.serve_over.new.standby c.serve_over.new.end c.serve_over.new.operator) count c.in-Ok.ensures.ok in
    let workers = c.args.workers.items in let handles = vec_items c.start_all-handles.result in
    let all : length workers ≤ length handles = omega (arith, c.in-Ok.ensures.started, c.len-count.ensures, c.len.ensures, c.args.workers.ok.0, c.start_all-handles.result.ok.0) in
    served g.O.Operator.asks g.T.SegmentSource.gives g.T.SegmentSource.failures c.args.standby c.args.feeding.handle.promise.0.value workers c.args.operator.now c.serve_over.new.operator c.args.feeding.end c.serve_over.new.end c.requires.new
    c.end_feed.result c.if-not-end_feed.false c.end_feed.ensures c.in-Ok.active c.serve_over.new.standby d handles c.start_all-handles.ensures.0 all
    _ refl c.into_parts-shadow.ensures.0 _ c.into_parts-shadow.ensures.1 c.pair-workers.ensures

pub serve_over-requires-clause-few : goal.serve_over-requires-clause-few
serve_over-requires-clause-few g c = omega (arith, c.start_all-handles.ensures.0.0, c.len-count.ensures, c.len.ensures, c.args.workers.ok.0, c.start_all-handles.result.ok.0)
