-- The values of the index are the blocks of the namespace.
use Rattle.std.proofs.Common.{inl, inr, ◌≡◌, ℕ, true, cond, List, [], ◌∷◌, map, Option, Some, None, refl, sym, ap, subst, ◌∙◌}
use Rattle.std.specs.Prelude.{◌==◌, find}
use Rattle.std.specs.Ordering.{nat_cmp, is_eq}
use Rattle.std.specs.declared.cmp.Ordering.TheVariants.{Less}
use Rattle.std.specs.BTreeMap.{is_at}
use Rattle.std.specs.Map.{keys_of, values_of, lookup as lookup_at}
use Rattle.std.specs.List.{AllByRecursion}
use Rattle.std.specs.List.Sorted.{IsStrictlySortedBy}
use Rattle.std.proofs.lemmas.Bool.{both_ways, cases_Bool, cond-true, cond-false, eqb-true, eq-eqb}
use Rattle.nn_model.specs.declared.form.BlockRow.{BlockRow}
use Rattle.nn_model.specs.declared.form.Form.{Form}
use Rattle.nn_model.specs.declared.form.Form.TheVariants.{Dir, File}
use Rattle.nn_model.specs.Namespace.{Path, Namespace, lookup}
use Rattle.nn_model.specs.Blocks.{block_row, block_rows, block_row_at, block_rows_of}
use Rattle.nn_model.specs.WellFormed.{Includes}
use Rattle.nn_model.proofs.InRows.{at_path}
use Rattle.nn_model.proofs.Members.{rows_at, row_found, of_block, row_of_file, some_path}
use Rattle.nn_tree.specs.Blocks.{AreBlockRows}
use Rattle.nn_tree.specs.View.{InRow, IsInSomeFile, IsKept}
use Rattle.nn_tree.proofs.Waiting.{tied}

-- ---- the index tells each block row

-- what stands in a file is a block row
in_rows : (form : Form) (b : BlockRow) → InRow b form → Includes (block_rows_of form) b
in_rows Dir b h = h.1
in_rows (File file) b h = subst (λ c. Includes (block_rows_of (File file)) (block_row c b.block)) (sym h.0) (of_block file.closed file.blocks b.block h.1)

stands_in_rows : (n : Namespace) (b : BlockRow) → IsInSomeFile (lookup n) b → Includes (block_rows n) b
stands_in_rows n b s = at_path block_rows_of s.0 n.rows b (subst (λ (o : Option Form). Includes (rows_at o) b) (sym s.2) (in_rows s.1 b s.3))

-- and a block row stands in a file
row_stands : (n : Namespace) (p : Path) (o : Option Form) (r : BlockRow) → lookup n p ≡ o → Includes (rows_at o) r → IsInSomeFile (lookup n) r
row_stands n p None r e h = absurd h
row_stands n p (Some Dir) r e h = absurd h
row_stands n p (Some (File file)) r e h = let f = row_of_file file.closed file.blocks r h in (p, File file, e, (f.1, f.0))

none_known : (rs : List BlockRow) (id : ℕ) (r : BlockRow) → find (λ x. x.block.id == id) rs ≡ None → Includes rs r → r.block.id ≡ id → ⊥
none_known [] id r none here is = here
none_known (x ∷ rs) id r none here is =
    elim (cases_Bool (x.block.id == id)) [
      | inl hit ↦ let e : Some x ≡ None = sym (cond-true (x.block.id == id) (Some x) (find (λ y. y.block.id == id) rs) hit) ∙ none in cc
      | inr miss ↦ elim here [
        | inl same ↦ both_ways _ miss (eq-eqb _ _ (ap (λ y. y.block.id) same ∙ is))
        | inr later ↦ none_known rs id r (sym (cond-false (x.block.id == id) (Some x) (find (λ y. y.block.id == id) rs) miss) ∙ none) later is
      ]
    ]

look_known : (n : Namespace) (look : ℕ → Option BlockRow) (id : ℕ) → IsKept n look → look id ≡ block_row_at n id
look_known n look id k =
    elim (block_row_at n id) as (λ o. block_row_at n id ≡ o → look id ≡ o) [
      | Some r ↦ λ e.
          let found = row_found (block_rows n) id r e in
          let w = some_path n.rows k.well.blocks.in_order r found.0 in
          ap look (sym found.1) ∙ k.index.complete r (row_stands n w.0 (lookup n w.0) r refl w.1)
      | None ↦ λ e.
          elim (look id) as (λ o. look id ≡ o → o ≡ None) [
            | None ↦ λ h. refl
            | Some b ↦ λ h. let s = k.index.sound id b h in absurd (none_known (block_rows n) id b e (stands_in_rows n b s.1) s.0)
          ] refl
    ] refl

-- ---- its values, where each key is its block's id

abbrev block_ids : List BlockRow → List ℕ
block_ids rows = map (λ row. row.block.id) rows

-- a key below all is not found
not_there : (k id : ℕ) (es : List (ℕ × BlockRow)) → id ≡ k → AllByRecursion (λ j. nat_cmp k j ≡ Less) (keys_of es) → lookup_at (is_at (nat_cmp id)) es ≡ None
not_there k id [] same below = refl
not_there k id (e ∷ es) same below = ap (λ x. cond (is_eq (nat_cmp x e.0)) (Some e.1) (lookup_at (is_at (nat_cmp id)) es)) same ∙ ap (λ o. cond (is_eq o) (Some e.1) (lookup_at (is_at (nat_cmp id)) es)) below.0 ∙ not_there k id es same below.1

own_ids : (es : List (ℕ × BlockRow)) → IsStrictlySortedBy nat_cmp (keys_of es) → ((id : ℕ) (b : BlockRow) → lookup_at (is_at (nat_cmp id)) es ≡ Some b → b.block.id ≡ id) → block_ids (values_of es) ≡ keys_of es
unfolding IsStrictlySortedBy
own_ids [] sorted own = refl
own_ids (e ∷ es) sorted own =
    let self : (e.0 == e.0) ≡ true = eq-eqb e.0 e.0 refl in
    let head : e.1.block.id ≡ e.0 = own e.0 e.1 (ap (λ t. cond t (Some e.1) (lookup_at (is_at (nat_cmp e.0)) es)) (tied e.0 e.0 ∙ self)) in
    let rest = own_ids es sorted.1 (λ id b h.
    elim (cases_Bool (e.0 == id)) [
      | inl same ↦ let none = not_there e.0 id es (sym (eqb-true e.0 id same)) sorted.0 in (cc (none, h))
      | inr other ↦ own id b (ap (λ t. cond t (Some e.1) (lookup_at (is_at (nat_cmp id)) es)) (tied id e.0 ∙ other) ∙ h)
    ]) in
    (λ j. head j ∷ rest j)

find_values : (es : List (ℕ × BlockRow)) (id : ℕ) → block_ids (values_of es) ≡ keys_of es → find (λ row. row.block.id == id) (values_of es) ≡ lookup_at (is_at (nat_cmp id)) es
find_values [] id own = refl
find_values (e ∷ es) id own =
    let head : e.1.block.id ≡ e.0 = cc in
    let rest : block_ids (values_of es) ≡ keys_of es = cc in
    (λ j. cond (head j == id) (Some e.1) (find_values es id rest j))
    ∙ ap (λ t. cond t (Some e.1) (lookup_at (is_at (nat_cmp id)) es)) (sym (tied id e.0))

pub are_blocks : (n : Namespace) (es : List (ℕ × BlockRow)) → IsStrictlySortedBy nat_cmp (keys_of es) → IsKept n (λ id. lookup_at (is_at (nat_cmp id)) es) → AreBlockRows n (values_of es)
are_blocks n es sorted k =
    let own = own_ids es sorted (λ id b h. (k.index.sound id b h).0) in
    record {
      ascending = subst (IsStrictlySortedBy nat_cmp) (sym own) sorted;
      all = λ id. find_values es id own ∙ look_known n (λ q. lookup_at (is_at (nat_cmp q)) es) id k;
    }
