use Rattle.std.proofs.Common.{◌≡◌, ℕ, cond, take, None, List, subst, sym}
use Rattle.nn_sorted.specs.Values.{value_at}
use Rattle.std.specs.Ordering.{nat_cmp, is_eq}
use Rattle.std.proofs.lemmas.List.{take_more}
use Rattle.nn_model.specs.Apply.{has_id}
use Rattle.nn_tree.proofs.Deleted.{out_one}
use Rattle.nn_tree.proofs.index.forget.Goals as goal

pub loop-id-preserved : goal.loop-id-preserved
loop-id-preserved c q =
    subst (λ (xs : List ℕ). value_at nat_cmp c.remove-row.new.self q ≡ cond (has_id xs q) None (value_at nat_cmp c.args.index.now q)) (sym (take_more c.args.ids.now c.loop-id.id-index c.id-item.result c.loop-id-test.true))
    (out_one (take c.loop-id.id-index c.args.ids.now) _ q (λ k. value_at nat_cmp c.args.index.now k) (λ k. value_at nat_cmp c.loop-id.index k) (λ k. value_at nat_cmp c.remove-row.new.self k) (c.loop-id.invariant q) (subst (λ i. value_at nat_cmp c.remove-row.new.self q ≡ cond (is_eq (nat_cmp i q)) None (value_at nat_cmp c.loop-id.index q)) c.id-item.is (c.remove-row.ensures.updates q)))
