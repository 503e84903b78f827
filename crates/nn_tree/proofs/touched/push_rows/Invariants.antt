use Rattle.std.proofs.Common.{◌≡◌, ◌++◌, map, take}
use Rattle.nn_model.specs.Blocks.{block_row}
use Rattle.nn_tree.proofs.touched.push_rows.Given as goal

-- the rows of the blocks so far
abbrev pub invariant-loop-block : goal.invariant-loop-block
invariant-loop-block l = l.out.items ≡ l.initial.out.items ++ map (λ b. block_row l.closed b) (take l.block-index l.list)
