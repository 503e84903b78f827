use Rattle.std.proofs.Common.{◌≡◌, take}
use Rattle.nn_tree.proofs.issued.awaiting_set.Given as goal

-- the ids so far
abbrev pub invariant-loop-id : goal.invariant-loop-id
invariant-loop-id l = l.awaiting.keys ≡ take l.id-index l.ids
