use Rattle.std.proofs.Common.{◌≡◌, ◌++◌, map, take}
use Rattle.nn_shadow.proofs.touching.push_ids.Given as goal

-- the ids of the blocks so far
abbrev pub invariant-loop-block : goal.invariant-loop-block
invariant-loop-block l = l.ids.items ≡ l.initial.ids.items ++ map (λ b. b.id) (take l.block-index l.blocks)
