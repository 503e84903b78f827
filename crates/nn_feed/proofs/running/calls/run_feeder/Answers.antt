use Rattle.std.proofs.Common.{◌++◌, ◌∷◌, [], map, Err, OnErr, ap, sym, subst, ◌∙◌, length, length-append, arith}
use Rattle.nn_segment.specs.Source.{given, end}
use Rattle.nn_segment.proofs.Asks.{asked_again, asked_more}
use Rattle.nn_feed.specs.Ends.{put_by}
use Rattle.nn_feed.specs.Feeds.{answers_of}
use Rattle.nn_feed.proofs.Runs.{one_more, one_last_more, came_back, was_refused}
use Rattle.nn_feed.proofs.running.calls.run_feeder.Goals as goal

pub returns-in-Ok-clause-fed : goal.returns-in-Ok-clause-fed
returns-in-Ok-clause-fed g c =
    let so_far = c.items.invariant.put in let segments = so_far.0 in
    let gave = rw c.in-Ok-End.field-0-is at c.in-Ok-End.ensures.gives in (
      segments,
      (
        asked_again g.S.SegmentSource.gives c.args.source.now c.items.source c.next-in-items.new.self (map given segments) end so_far.1 gave,
        so_far.3,
        one_last_more (put_by c.items.feeder) (put_by c.put.new.self) (answers_of (put_by c.args.feeder.now)) segments end (length (put_by c.items.feeder)) so_far.2 c.in-Ok.ensures.ok.1,
      ),
    )

pub returns-in-Err-put-clause-fed : goal.returns-in-Err-put-clause-fed
returns-in-Err-put-clause-fed g c =
    let gives = g.S.SegmentSource.gives in
    let so_far = c.items.invariant.put in let segments = so_far.0 in
    let gave = rw c.in-Ok-End.field-0-is at c.in-Ok-End.ensures.gives in
    let refused = c.in-Err-put.ensures.refused in
    let back = came_back (put_by c.items.feeder) end c.in-Err-put.refusal refused.1 in
    let last = subst (λ a. gives c.items.source a c.next-in-items.new.self) (sym back) gave in
    (segments, (asked_again gives c.args.source.now c.items.source c.next-in-items.new.self (map given segments) _ so_far.1 last, subst (λ a. OnErr a ⊥) (sym back) tt, was_refused (put_by c.items.feeder) _ end c.in-Err-put.refusal refused.0 back refused.1, ap answers_of refused.0 ∙ so_far.2))

pub returns-in-Err-clause-fed : goal.returns-in-Err-clause-fed
returns-in-Err-clause-fed g c =
    let so_far = c.items.invariant.put in let segments = so_far.0 in
    (segments, (asked_again g.S.SegmentSource.gives c.args.source.now c.items.source c.next-in-items.new.self (map given segments) (Err c.in-Err.fault) so_far.1 c.in-Err.ensures.gives, tt, tt, so_far.2))

pub returns-in-Err-put-2-clause-fed : goal.returns-in-Err-put-2-clause-fed
returns-in-Err-put-2-clause-fed g c =
    let gives = g.S.SegmentSource.gives in
    let so_far = c.items.invariant.put in let segments = so_far.0 in let x = c.in-Ok-Segment.segment in
    let gave = rw c.in-Ok-Segment.field-0-is at c.in-Ok-Segment.ensures.gives in
    let refused = c.in-Err-put-2.ensures.refused in
    let back = came_back (put_by c.items.feeder) (given x) c.in-Err-put-2.refusal refused.1 in
    let last = subst (λ a. gives c.items.source a c.next-in-items.new.self) (sym back) gave in
    (segments, (asked_again gives c.args.source.now c.items.source c.next-in-items.new.self (map given segments) _ so_far.1 last, subst (λ a. OnErr a ⊥) (sym back) tt, was_refused (put_by c.items.feeder) _ (given x) c.in-Err-put-2.refusal refused.0 back refused.1, ap answers_of refused.0 ∙ so_far.2))

pub items-preserved : goal.items-preserved
items-preserved g c =
    let so_far = c.items.invariant.put in let segments = so_far.0 in let x = c.in-Ok-Segment.segment in
    let gave = rw c.in-Ok-Segment.field-0-is at c.in-Ok-Segment.ensures.gives in
    record {
      same = c.put-in-items.ensures.same ∙ c.items.invariant.same;
      counted = omega (arith, c.items.invariant.counted, c.next-in-items.ensures.counted);
      put = (
        segments ++ x ∷ [],
        asked_more g.S.SegmentSource.gives c.args.source.now c.items.source c.next-in-items.new.self segments x so_far.1 gave,
        one_more (put_by c.items.feeder) (put_by c.put-in-items.new.self) (answers_of (put_by c.args.feeder.now)) segments x (length (put_by c.items.feeder)) so_far.2 c.in-Ok-put.ensures.ok.1,
        omega (arith, so_far.3, length-append segments (x ∷ [])),
      );
    }
