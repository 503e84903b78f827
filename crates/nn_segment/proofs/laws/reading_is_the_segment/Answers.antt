use Rattle.nn_segment.proofs.SegmentLemmas.{read_is_segment, segment_is_read}
use Rattle.nn_segment.proofs.laws.reading_is_the_segment.Goals as goal

pub returns-clause-is : goal.returns-clause-is
returns-clause-is c = read_is_segment

pub returns-clause-only : goal.returns-clause-only
returns-clause-only c = segment_is_read
