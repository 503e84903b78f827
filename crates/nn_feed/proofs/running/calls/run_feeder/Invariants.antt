use Rattle.std.proofs.Common.{◌≡◌, ◌≤◌, List, ◌++◌, length, map}
use Rattle.nn_segment.specs.Segment.{Segment}
use Rattle.nn_segment.specs.Source.{Asked, given}
use Rattle.nn_feed.specs.Ends.{put_by, IsSameFeeder}
use Rattle.nn_feed.specs.Feeds.{answers_of}
use Rattle.nn_feed.proofs.running.calls.run_feeder.Given as goal

-- the source gave the segments so far, and these were put
abbrev pub invariant-items : goal.invariant-items
invariant-items g l = record {
  same : IsSameFeeder l.initial.feeder l.feeder;
  counted : g.S.SegmentSource.failures l.initial.source ≤ g.S.SegmentSource.failures l.source;
  put : (segments : List Segment)
      × Asked g.S.SegmentSource.gives l.initial.source (map given segments) l.source
      × (answers_of (put_by l.feeder) ≡ answers_of (put_by l.initial.feeder) ++ map given segments)
      × (l.count ≡ length segments);
}
