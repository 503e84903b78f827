-- The index while the rows of a list are written anew from its end on.
use Rattle.std.proofs.Common.{◌≡◌, inl, inr, ℕ, ◌+◌, ◌-◌, ◌<◌, ◌≤◌, Bool, List, ◌∷◌, Option, Some, is_some, eqb-true, cond, drop, length, get_or, option_map, ap, ap₂, sym, ◌∙◌, arith}
use Rattle.std.specs.Prelude.{◌==◌}
use Rattle.std.proofs.lemmas.List.{drop_more}
use Rattle.std.proofs.lemmas.Bool.{cases_Bool}
use Rattle.std.proofs.lemmas.Cmp.{nat_cmp_total}
use Rattle.std.specs.Ordering.{nat_cmp}
use Rattle.std.specs.Cmp.{eq_by_cmp_equiv}
use Rattle.std.specs.Map.{set_value}
use Rattle.std.specs.BTreeMap.{is_at}
use Rattle.nn_sorted.specs.Values.{value_at}
use Rattle.nn_sorted.proofs.Values.{value_set}
use Rattle.nn_types.specs.declared.block.Block.{Block}
use Rattle.nn_model.specs.declared.form.BlockRow.{BlockRow}
use Rattle.nn_tree.specs.View.{renewed, rewritten}
use Rattle.nn_tree.proofs.Waiting.{tied}

-- one more row
pub one_more : (look now after : ℕ → Option BlockRow) (old new : List Block) (left : ℕ) (b : Block) (closed : Bool) → 0 < left → left ≤ length old →
    left ≤ length new → b ≡ get_or new (left - 1) b → ((q : ℕ) → now q ≡ renewed look (drop left old) (drop left new) closed q) →
    ((q : ℕ) → after q ≡ rewritten now b closed q) → (q : ℕ) → after q ≡ renewed look (drop (left - 1) old) (drop (left - 1) new) closed q
one_more look now after old new left b closed some within_old within_new is so_far written q =
    let one : left - 1 + 1 ≡ left = omega (arith, some) in
    let old_at : drop (left - 1) old ≡ get_or old (left - 1) b ∷ drop left old =
    drop_more old (left - 1) b (omega (arith, some, within_old)) ∙ ap (λ k. get_or old (left - 1) b ∷ drop k old) one in
    let new_at : drop (left - 1) new ≡ b ∷ drop left new =
    drop_more new (left - 1) b (omega (arith, some, within_new)) ∙ ap₂ (λ (x : Block) (k : ℕ). x ∷ drop k new) (sym is) one in
    written q
    ∙ ap (λ (o : Option BlockRow). cond (b.id == q) (option_map (λ _. record { block = b; closed = closed }) o) o) (so_far q)
    ∙ ap₂ (λ (xs ys : List Block). renewed look xs ys closed q) (sym old_at) (sym new_at)

-- the row of a block that has one, written anew
pub row_rewritten : (es : List (ℕ × BlockRow)) (b : Block) (closed : Bool) (row : BlockRow) (q : ℕ) → Some row ≡ value_at nat_cmp es b.id
    → value_at nat_cmp (set_value (is_at (nat_cmp b.id)) es (record { block = b; closed = closed })) q ≡ rewritten (λ id. value_at nat_cmp es id) b closed q
row_rewritten es b closed row q h =
    let w : BlockRow = record { block = b; closed = closed } in
    let same : is_at (nat_cmp b.id) q ≡ (b.id == q) = (eq_by_cmp_equiv nat_cmp_total).symm b.id q ∙ tied q b.id in
    value_set nat_cmp_total (nat_cmp b.id) (nat_cmp_total.congr b.id) es q w (ap is_some (sym h)) ∙ ap (λ t. cond t (Some w) (value_at nat_cmp es q)) same
    ∙ elim (cases_Bool (b.id == q)) [
      | inl hit ↦ let there : Some row ≡ value_at nat_cmp es q = h ∙ ap (value_at nat_cmp es) (eqb-true b.id q hit) in
          ap (λ t. cond t (Some w) (value_at nat_cmp es q)) hit ∙ sym (ap (λ t. cond t (option_map (λ _. w) (value_at nat_cmp es q)) (value_at nat_cmp es q)) hit ∙ ap (option_map (λ _. w)) (sym there))
      | inr miss ↦ ap (λ t. cond t (Some w) (value_at nat_cmp es q)) miss ∙ sym (ap (λ t. cond t (option_map (λ _. w) (value_at nat_cmp es q)) (value_at nat_cmp es q)) miss)
    ]
