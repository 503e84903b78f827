use Rattle.std.proofs.Common.{◌≡◌, ◌++◌, length, map, Ok}
use Rattle.nn_segment.specs.Lines.{reads_of}
use Rattle.nn_segment.proofs.lines.read_lines.Given as goal

-- the transactions so far, and then what is left to read
abbrev pub invariant-lines : goal.invariant-lines
invariant-lines l = reads_of l.bytes ≡ map Ok l.txs.items ++ reads_of l.rest

abbrev pub decreases-lines : goal.decreases-lines
decreases-lines l = length l.rest
