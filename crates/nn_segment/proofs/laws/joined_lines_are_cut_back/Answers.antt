use Rattle.nn_segment.proofs.JoinedLines.{cut_back, reads_joined}
use Rattle.nn_segment.proofs.laws.joined_lines_are_cut_back.Goals as goal

pub returns-clause-lines : goal.returns-clause-lines
returns-clause-lines c = cut_back

pub returns-clause-reads : goal.returns-clause-reads
returns-clause-reads c = reads_joined
