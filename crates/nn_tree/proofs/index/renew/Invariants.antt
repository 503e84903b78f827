use Rattle.std.proofs.Common.{◌≡◌, ℕ, ◌≤◌, drop, length}
use Rattle.nn_sorted.specs.Values.{value_at}
use Rattle.std.specs.Ordering.{nat_cmp}
use Rattle.nn_tree.specs.View.{renewed}
use Rattle.nn_tree.proofs.index.renew.Given as goal

-- the index has what both lists have from here on
abbrev pub invariant-left : goal.invariant-left
invariant-left l = record {
  within_old : l.left ≤ length l.old;
  within_new : l.left ≤ length l.new;
  done : (q : ℕ) → value_at nat_cmp l.index q ≡ renewed (λ id. value_at nat_cmp l.fn.index id) (drop l.left l.old) (drop l.left l.new) l.closed q;
}

abbrev pub decreases-left : goal.decreases-left
decreases-left l = l.left
