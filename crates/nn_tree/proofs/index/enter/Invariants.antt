use Rattle.std.proofs.Common.{◌≤◌, ◌-◌, length}
use Rattle.nn_sorted.specs.Values.{value_at}
use Rattle.std.specs.Ordering.{nat_cmp}
use Rattle.nn_tree.proofs.Entered.{IsEntering}
use Rattle.nn_tree.proofs.index.enter.Given as goal

-- the blocks so far were new, and are in the index
abbrev pub invariant-entering : goal.invariant-entering
invariant-entering l = record {
  within : l.done ≤ length l.blocks;
  entering : IsEntering (λ id. value_at nat_cmp l.fn.index id) (λ id. value_at nat_cmp l.index id) l.blocks l.closed l.done;
}

abbrev pub decreases-entering : goal.decreases-entering
decreases-entering l = length l.blocks - l.done
