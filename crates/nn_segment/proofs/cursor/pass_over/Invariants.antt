use Rattle.std.proofs.Common.{length}
use Rattle.nn_segment.proofs.CursorLemmas.{Passing}
use Rattle.nn_segment.proofs.cursor.pass_over.Given as goal

abbrev pub invariant-old : goal.invariant-old
invariant-old l = Passing l.last l.initial.txs.items l.txs.items

abbrev pub decreases-old : goal.decreases-old
decreases-old l = length l.txs.items
