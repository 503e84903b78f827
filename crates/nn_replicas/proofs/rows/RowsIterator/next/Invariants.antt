use Rattle.std.proofs.Common.{◌≡◌, length}
use Rattle.nn_replicas.specs.Entry.{rows_in}
use Rattle.nn_replicas.proofs.rows.RowsIterator.next.Given as goal

-- the entries passed have no row
abbrev pub invariant-loop-block : goal.invariant-loop-block
invariant-loop-block l = rows_in l.self-inside.entries ≡ rows_in l.initial.self-inside.entries

abbrev pub decreases-loop-block : goal.decreases-loop-block
decreases-loop-block l = length l.self-inside.entries
