use Rattle.std.proofs.Common.{◌≡◌, ◌+◌, ◌++◌, length}
use Rattle.std.specs.Prelude.{vec_len, vec_capacity}
use Rattle.nn_shadow.specs.Notes.{before, onward}
use Rattle.nn_shadow.proofs.had.move_before.Given as goal

abbrev pub invariant-older : goal.invariant-older
invariant-older l = record {
  moved : l.all.items ++ before l.block l.left ≡ l.fn.all.items ++ before l.block l.fn.has;
  others : onward l.block l.left ≡ onward l.block l.fn.has;
  capacity : vec_capacity l.all ≡ vec_capacity l.fn.all;
  room : vec_len l.all + length l.left ≡ vec_len l.fn.all + length l.fn.has;
}

abbrev pub decreases-older : goal.decreases-older
decreases-older l = length l.left
