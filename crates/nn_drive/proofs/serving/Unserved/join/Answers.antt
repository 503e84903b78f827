use Rattle.nn_drive.proofs.Unserves.{none_left, left_unmet, left_met}
use Rattle.nn_drive.proofs.serving.Unserved.join.Goals as goal

pub returns-in_default-clause-fault : goal.returns-in_default-clause-fault
returns-in_default-clause-fault g c = λ old source h. none_left g.T.SegmentSource.gives g.T.SegmentSource.failures c.args.self old source h c.in_default.is

pub returns-then-not-end_feed-clause-fault : goal.returns-then-not-end_feed-clause-fault
returns-then-not-end_feed-clause-fault g c = λ old source h.
    left_unmet g.T.SegmentSource.gives g.T.SegmentSource.failures c.args.self old source h c.in-Some.feeding c.in-Some.is c.drop_feed.new.end c.end_feed.result c.end_feed.ensures

pub returns-clause-fault : goal.returns-clause-fault
returns-clause-fault g c = λ old source h.
    left_met g.T.SegmentSource.gives g.T.SegmentSource.failures c.args.self old source h c.in-Some.feeding c.in-Some.is c.drop_feed.new.end c.end_feed.result c.end_feed.ensures c.if-not-end_feed.false c.drop_feed.ensures.more
