use Rattle.std.proofs.Common.{◌≡◌, ◌+◌, ◌++◌, ◌≤◌, length}
use Rattle.std.specs.Prelude.{vec_len, vec_capacity}
use Rattle.nn_shadow.proofs.had.move_all.Given as goal

abbrev pub invariant-rest : goal.invariant-rest
invariant-rest l = record {
  items : l.all.items ++ l.left ≡ l.fn.all.items ++ l.fn.has;
  room : vec_len l.all + length l.left ≤ vec_capacity l.all;
}

abbrev pub decreases-rest : goal.decreases-rest
decreases-rest l = length l.left
