use Rattle.std.proofs.Common.{◌≡◌, ℕ, cond, take, None}
use Rattle.nn_sorted.specs.Values.{value_at}
use Rattle.std.specs.Ordering.{nat_cmp}
use Rattle.nn_model.specs.Apply.{has_id}
use Rattle.nn_tree.proofs.index.forget.Given as goal

abbrev pub invariant-loop-id : goal.invariant-loop-id
invariant-loop-id l = (q : ℕ) → value_at nat_cmp l.index q ≡ cond (has_id (take l.id-index l.ids) q) None (value_at nat_cmp l.initial.index q)
