use Rattle.std.proofs.Common.{◌≡◌, ◌+◌, ◌++◌, ◌≤◌, length}
use Rattle.std.specs.Prelude.{vec_len, vec_capacity}
use Rattle.nn_shadow.specs.Notes.{merged}
use Rattle.nn_shadow.proofs.had.merge.Given as goal

abbrev pub invariant-notes : goal.invariant-notes
invariant-notes l = record {
  items : l.all.items ++ merged l.left l.waiting ≡ l.fn.all.items ++ merged l.fn.has l.fn.told;
  room : vec_len l.all + (length l.left + length l.waiting) ≤ vec_capacity l.all;
}

abbrev pub decreases-notes : goal.decreases-notes
decreases-notes l = length l.waiting
