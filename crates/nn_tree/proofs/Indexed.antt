-- The index of a namespace's blocks, after each edit.
use Rattle.std.proofs.Common.{inl, inr, ◌≡◌, ℕ, true, false, cond, List, [], ◌∷◌, ◌++◌, length, drop, Option, Some, None, IsSome, refl, sym, ap, subst, ◌∙◌, arith}
use Rattle.std.specs.Prelude.{◌⊎◌, find, ◌==◌}
use Rattle.std.specs.FinMap.Entries.{find as find_entry, put, find-put}
use Rattle.std.proofs.lemmas.Bool.{both_ways, cases_Bool, false_from_ne_true}
use Rattle.nn_types.specs.declared.block.Block.{Block}
use Rattle.nn_model.specs.declared.form.Form.TheVariants.{Dir}
use Rattle.nn_model.specs.Namespace.{Namespace, path_cmp, lookup, blocks_of, file_or_none}
use Rattle.nn_model.specs.WellFormed.{Includes, HasWellFormedBlocks}
use Rattle.nn_model.proofs.Dues.{found_in, none_found, stands_times, file_has, blocks_in}
use Rattle.nn_model.proofs.Wells.{times_put, blocks_of_found}
use Rattle.nn_model.proofs.Lookups.{paths_total}
use Rattle.nn_model.specs.declared.form.Form.{Form}
use Rattle.nn_model.specs.Namespace.{Path, begins_with}
use Rattle.nn_model.specs.Apply.{moved}
use Rattle.nn_tree.specs.Walks.{moved_rows}
use Rattle.nn_model.specs.declared.form.BlockRow.{BlockRow}
use Rattle.nn_tree.specs.View.{closed_of, InRow, IsIndex}
use Rattle.nn_tree.proofs.Prefix.{CanMove, some_none}
use Rattle.nn_model.proofs.Prefixes.{same, same_true, begins_append, begins_split}

-- ---- a rename
drop_after : (d r : Path) → drop (length d) (d ++ r) ≡ r
drop_after [] r = refl
drop_after (n ∷ ns) r = drop_after ns r

-- where a row stands after the rename: at the moved path
row_moves : (f : Path → Option Form) (s d p : Path) (r : Form) → CanMove f s d → f p ≡ Some r → moved_rows f s d (moved s d p) ≡ Some r
row_moves f s d p r c h =
    elim (begins_with s p) as (λ b. begins_with s p ≡ b → moved_rows f s d (cond b (d ++ drop (length s) p) p) ≡ Some r) [
      | true ↦ λ e. ap (λ b. cond b (f (s ++ drop (length d) (d ++ drop (length s) p))) (cond (begins_with s (d ++ drop (length s) p)) None (f (d ++ drop (length s) p)))) (begins_append d (drop (length s) p))
          ∙ ap (λ x. f (s ++ x)) (drop_after d (drop (length s) p)) ∙ ap f (sym (begins_split s p e)) ∙ h
      | false ↦ λ e. ap (λ b. cond b (f (s ++ drop (length d) p)) (cond (begins_with s p) None (f p))) (false_from_ne_true (begins_with d p) (λ g. some_none (f p) (ap f (begins_split d p g) ∙ c.free _) (subst IsSome (sym h) refl)))
          ∙ ap (λ b. cond b None (f p)) e ∙ h
    ] refl

-- and where it stood before
row_moved : (f : Path → Option Form) (s d q : Path) (r : Form) → moved_rows f s d q ≡ Some r → (p : Path) × (f p ≡ Some r)
row_moved f s d q r h =
    elim (begins_with d q) as (λ b. cond b (f (s ++ drop (length d) q)) (cond (begins_with s q) None (f q)) ≡ Some r → (p : Path) × (f p ≡ Some r)) [
      | true ↦ λ g. (s ++ drop (length d) q, g)
      | false ↦ λ g. elim (begins_with s q) as (λ b. cond b None (f q) ≡ Some r → (p : Path) × (f p ≡ Some r)) [ true ↦ λ k. cc | false ↦ λ k. (q, k) ] g
    ] h

pub index_renamed : (f : Path → Option Form) (s d : Path) (look : ℕ → Option BlockRow) → CanMove f s d → IsIndex f look → IsIndex (moved_rows f s d) look
index_renamed f s d look c x = record {
  sound = λ id b h. let t = x.sound id b h in (t.0, (moved s d t.1.0, t.1.1, row_moves f s d t.1.0 t.1.1 c t.1.2, t.1.3));
  complete = λ b t. let w = row_moved f s d t.0 t.1 t.2 in x.complete b (w.0, t.1, w.1, t.3);
}

pub index_alike : (f g : Path → Option Form) (look : ℕ → Option BlockRow) → ((q : Path) → g q ≡ f q) → IsIndex f look → IsIndex g look
index_alike f g look h x = subst (λ (k : Path → Option Form). IsIndex k look) (λ j q. sym (h q) j) x

pub index_looks : (f : Path → Option Form) (look next : ℕ → Option BlockRow) → ((id : ℕ) → next id ≡ look id) → IsIndex f look → IsIndex f next
index_looks f look next h x = subst (λ (k : ℕ → Option BlockRow). IsIndex f k) (λ j id. sym (h id) j) x

-- ---- one row

-- what stood at a path before
abbrev pub old_blocks : Option Form → List Block
old_blocks o = (file_or_none o).blocks

-- the block with this id, if it is in the list
pub known : (bs : List Block) (id : ℕ) → ((x : Block) × Includes bs x × (x.id ≡ id)) ⊎ ((x : Block) → Includes bs x → x.id ≡ id → ⊥)
known bs id =
    elim (find (λ x. x.id == id) bs) as (λ o. find (λ x. x.id == id) bs ≡ o → ((x : Block) × Includes bs x × (x.id ≡ id)) ⊎ ((x : Block) → Includes bs x → x.id ≡ id → ⊥)) [
      | Some x ↦ λ e. let h = found_in bs id x e in inl (x, h.0, h.1)
      | None ↦ λ e. inr (λ x here is. none_found bs id x e here is)
    ] refl

-- The row y is written at p, and the look-ups become `next`.
pub record Writes (f : Path → Option Form) (p : Path) (y : Form) (look next : ℕ → Option BlockRow) : Type 0 where
  -- a block of the old or of the new row stands nowhere else
  pub own : (x : Block) → Includes (blocks_of y) x ⊎ Includes (old_blocks (f p)) x → (c : BlockRow) (q : Path) (r : Form) → f q ≡ Some r → InRow c r → c.block.id ≡ x.id → same q p ≡ true
  pub written : (b : BlockRow) → InRow b y → next b.block.id ≡ Some b
  pub kept : (id : ℕ) → ((x : Block) → Includes (blocks_of y) x → x.id ≡ id → ⊥) → ((x : Block) → Includes (old_blocks (f p)) x → x.id ≡ id → ⊥) → next id ≡ look id
  pub gone : (x : Block) → Includes (old_blocks (f p)) x → ((z : Block) → Includes (blocks_of y) z → z.id ≡ x.id → ⊥) → next x.id ≡ None

same_some : {X : Type 0} (a b : X) → Some a ≡ Some b → a ≡ b
same_some a b h = cc

pub index_written : (f g : Path → Option Form) (p : Path) (y : Form) (look next : ℕ → Option BlockRow) → ((q : Path) → g q ≡ cond (same q p) (Some y) (f q)) → same p p ≡ true → Writes f p y look next → IsIndex f look → IsIndex g next
index_written f g p y look next e self w x = record {
  sound = λ id b h.
      elim (known (blocks_of y) id) [
        | inl z ↦
            let row : BlockRow = record { block = z.0; closed = closed_of y } in
            let is : row ≡ b = same_some row b (sym (w.written row (refl, z.1)) ∙ ap next z.2 ∙ h) in
            (ap (λ c. c.block.id) (sym is) ∙ z.2, (p, y, e p ∙ ap (λ t. cond t (Some y) (f p)) self, subst (λ c. InRow c y) is (refl, z.1)))
        | inr away ↦ elim (known (old_blocks (f p)) id) [
          | inl z ↦ absurd (let n = w.gone z.0 z.1 (λ v here is. away v here (is ∙ z.2)) in let m = sym (ap next z.2) ∙ n in (cc (m, h)))
          | inr before ↦
              let t = x.sound id b (sym (w.kept id away before) ∙ h) in
              let q = t.1.0 in (
                t.0,
                (
                  q,
                  t.1.1,
                  e q ∙ ap (λ k. cond k (Some y) (f q)) (false_from_ne_true (same q p) (λ at_p. before b.block (subst (λ o. Includes (old_blocks o) b.block) (sym t.1.2 ∙ ap f (same_true q p at_p)) (subst (λ bs. Includes bs b.block) (sym (blocks_of_found t.1.1)) t.1.3.1)) t.0)) ∙ t.1.2,
                  t.1.3,
                ),
              )
        ]
      ];
  complete = λ b t.
      elim (cases_Bool (same t.0 p)) [
        | inl at_p ↦
            let is : y ≡ t.1 = same_some y t.1 (sym (e t.0 ∙ ap (λ k. cond k (Some y) (f t.0)) at_p) ∙ t.2) in
            w.written b (subst (λ r. InRow b r) (sym is) t.3)
        | inr other ↦
            let was : f t.0 ≡ Some t.1 = sym (e t.0 ∙ ap (λ k. cond k (Some y) (f t.0)) other) ∙ t.2 in
            w.kept b.block.id
            (λ z here is. both_ways _ other (w.own z (inl here) b t.0 t.1 was t.3 (sym is)))
            (λ z here is. both_ways _ other (w.own z (inr here) b t.0 t.1 was t.3 (sym is)))
            ∙ x.complete b (t.0, t.1, was, t.3)
      ];
}

-- no block stands at two paths
pub apart : (n : Namespace) (p q : Path) (x : Block) (r : Form) (c : Block) → HasWellFormedBlocks n → Includes (old_blocks (lookup n p)) x → lookup n q ≡ Some r → Includes (blocks_of r) c → c.id ≡ x.id → same q p ≡ true
apart n p q x r c w here there also is =
    elim (cases_Bool (same q p)) [
      | inl at_p ↦ at_p
      | inr other ↦
          let without = put path_cmp p Dir n.rows in
          let still : find_entry path_cmp q without ≡ Some r = find-put path_cmp paths_total q p Dir n.rows ∙ ap (λ k. cond k (Some Dir) (lookup n q)) other ∙ there in
          let has : Includes (old_blocks (find_entry path_cmp q without)) c = subst (λ o. Includes (old_blocks o) c) (sym still) (subst (λ bs. Includes bs c) (sym (blocks_of_found r)) also) in
          let one = stands_times (blocks_in without) c x.id (file_has q without c has) is in
          let two = stands_times (old_blocks (lookup n p)) x x.id here refl in
          absurd (omega (arith, one, two, times_put x.id p Dir n.rows w.in_order, w.once x.id))
    ]
