use Rattle.std.proofs.Common.{◌≡◌, Err, arith}
use Rattle.nn_segment.proofs.CursorLemmas.{walk_begins, walk_gives, walk_on_new, walk_on_old, walk_stops, walk_ends, walk_fails}
use Rattle.nn_segment.proofs.cursor.Cursor.next_transaction.Goals as goal

pub segments-init : goal.segments-init
segments-init g c = walk_begins g.S.SegmentSource.gives g.S.SegmentSource.failures c.args.last c.args.source.now c.args.self.now

pub returns-in-Some-clause-reads : goal.returns-in-Some-clause-reads
returns-in-Some-clause-reads g c =
    walk_gives g.S.SegmentSource.gives g.S.SegmentSource.failures c.args.last c.args.source.now c.segments.source c.args.self.now c.segments.self c.segments.invariant c.in-Some.tx c.take.new.self c.in-Some.ensures.some

pub segments-preserved-in-New : goal.segments-preserved-in-New
segments-preserved-in-New g c =
    let q = rw c.in-New.is at c.in_ok-take_up.ensures.takes in
    walk_on_new g.S.SegmentSource.gives g.S.SegmentSource.failures c.args.last c.args.source.now c.segments.source c.args.self.now c.segments.self c.segments.invariant c.take_up.new.source q.0 q.1 c.take.new.self c.take_up.new.self c.in_default.ensures.none c.in_ok-take_up.ensures.counted q.2

pub segments-preserved : goal.segments-preserved
segments-preserved g c =
    let q = rw c.in-Old.is at c.in_ok-take_up.ensures.takes in
    walk_on_old g.S.SegmentSource.gives g.S.SegmentSource.failures c.args.last c.args.source.now c.segments.source c.args.self.now c.segments.self c.segments.invariant c.take_up.new.source q.0 q.1 c.take.new.self c.take_up.new.self c.in_default.ensures.none c.in_ok-take_up.ensures.counted q.2

pub returns-in-Disorder-clause-reads : goal.returns-in-Disorder-clause-reads
returns-in-Disorder-clause-reads g c =
    let q = rw c.in-Disorder.is at c.in_ok-take_up.ensures.takes in
    walk_stops g.S.SegmentSource.gives g.S.SegmentSource.failures c.args.last c.args.source.now c.segments.source c.args.self.now c.segments.self c.segments.invariant c.take_up.new.source q.0 q.1 c.take.new.self c.take_up.new.self c.in_default.ensures.none q.2

pub returns-in-End-clause-reads : goal.returns-in-End-clause-reads
returns-in-End-clause-reads g c =
    let q = rw c.in-End.is at c.in_ok-take_up.ensures.takes in
    walk_ends g.S.SegmentSource.gives g.S.SegmentSource.failures c.args.last c.args.source.now c.segments.source c.args.self.now c.segments.self c.segments.invariant c.take_up.new.source q.0 q.1 c.take.new.self c.take_up.new.self c.in_default.ensures.none q.2

pub returns-in_err-take_up-clause-reads : goal.returns-in_err-take_up-clause-reads
returns-in_err-take_up-clause-reads g c =
    let q = c.in_err-take_up.ensures.takes in
    let fault = c.in_err-take_up.field-0.0 in
    let is : c.from_residual.result ≡ Err fault = grind arith in
    rw is (walk_fails g.S.SegmentSource.gives g.S.SegmentSource.failures c.args.last c.args.source.now c.segments.source c.args.self.now c.segments.self c.segments.invariant c.take_up.new.source q.0 q.1 c.take.new.self c.take_up.new.self c.in_default.ensures.none fault q.2)
