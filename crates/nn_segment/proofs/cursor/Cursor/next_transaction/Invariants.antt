use Rattle.nn_segment.proofs.CursorLemmas.{Walking}
use Rattle.nn_segment.proofs.cursor.Cursor.next_transaction.Given as goal

abbrev pub invariant-segments : goal.invariant-segments
invariant-segments g l = Walking g.S.SegmentSource.gives g.S.SegmentSource.failures l.last l.initial.source l.source l.initial.self l.self

abbrev pub decreases-segments : goal.decreases-segments
decreases-segments g l = g.S.SegmentSource.left l.source
