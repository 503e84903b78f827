-- What an edit touched tells the blocks after it from those before, and whether their files are closed.
use Rattle.std.proofs.Common.{◌≡◌, ℕ, ◌+◌, ◌≤◌, Bool, true, false, cond, not, ◌||◌, List, [], ◌∷◌, filter, Option, Some, None, refl, sym, ap, subst, ◌∙◌, inl}
use Rattle.std.proofs.Common.{inr, arith, ltb}
use Rattle.std.specs.Prelude.{◌⊎◌, ◌==◌, find}
use Rattle.std.specs.Option.{option_map}
use Rattle.std.proofs.lemmas.Bool.{both_ways, cases_Bool, cond-true, cond-false, eq-eqb, or_left, or_right}
use Rattle.nn_types.specs.declared.block.Block.{Block}
use Rattle.nn_model.specs.declared.form.Form.{Form}
use Rattle.nn_model.specs.declared.form.BlockRow.{BlockRow}
use Rattle.nn_model.specs.Namespace.{Path, Namespace, blocks_of}
use Rattle.nn_model.specs.Apply.{has_id}
use Rattle.nn_model.specs.Status.{block_at}
use Rattle.nn_model.specs.Touched.{Touched, ids_of, with_id, ascending, changed_blocks, changed_ids, or_before, row_after, block_after}
use Rattle.nn_model.specs.Blocks.{block_rows, block_row_at}
use Rattle.nn_model.specs.WellFormed.{Includes, times, HasWellFormedBlocks}
use Rattle.nn_model.proofs.Dues.{blocks_in, none_found}
use Rattle.nn_model.proofs.Wells.{times-append}
use Rattle.nn_model.proofs.Members.{blocks_of_rows, blocks_of_all, block_has, find_block, row_found, row_known}

-- ---- ids of blocks

pub ids_has : (bs : List Block) (b : Block) (id : ℕ) → Includes bs b → b.id ≡ id → has_id (ids_of bs) id ≡ true
ids_has [] b id here is = absurd here
ids_has (x ∷ bs) b id (inl same) is = or_left (x.id == id) (has_id (ids_of bs) id) (eq-eqb _ _ (ap (λ y. y.id) same ∙ is))
ids_has (x ∷ bs) b id (inr here) is = or_right (x.id == id) (has_id (ids_of bs) id) (ids_has bs b id here is)

pub ids_times : (bs : List Block) (id : ℕ) → has_id (ids_of bs) id ≡ true → 1 ≤ times id bs
ids_times [] id has = absurd (both_ways _ refl has)
ids_times (x ∷ bs) id has =
    elim (cases_Bool (x.id == id)) [
      | inl this ↦ subst (λ t. 1 ≤ cond t 1 0 + times id bs) (sym this) (omega arith)
      | inr other ↦ (let rest = ids_times bs id (sym (ap (λ t. t || has_id (ids_of bs) id) other) ∙ has) in omega (arith, rest))
    ]

or_swap : (a b c : Bool) → (a || (b || c)) ≡ (b || (a || c))
or_swap true true c = refl
or_swap true false c = refl
or_swap false b c = refl

with_id_has : (i : ℕ) (ids : List ℕ) (id : ℕ) → has_id (with_id i ids) id ≡ has_id (i ∷ ids) id
with_id_has i [] id = refl
with_id_has i (j ∷ ids) id =
    elim (ltb i j) as (λ t. has_id (cond t (i ∷ j ∷ ids) (j ∷ with_id i ids)) id ≡ has_id (i ∷ j ∷ ids) id) [
      | true ↦ refl
      | false ↦ ap (λ t. (j == id) || t) (with_id_has i ids id) ∙ or_swap (j == id) (i == id) (has_id ids id)
    ]

pub ascending_has : (ids : List ℕ) (id : ℕ) → has_id (ascending ids) id ≡ has_id ids id
ascending_has [] id = refl
ascending_has (i ∷ ids) id = with_id_has i (ascending ids) id ∙ ap (λ t. (i == id) || t) (ascending_has ids id)

none_has : (bs : List Block) (id : ℕ) → find (λ x. x.id == id) bs ≡ None → has_id (ids_of bs) id ≡ false
none_has [] id none = refl
none_has (b ∷ bs) id none =
    elim (cases_Bool (b.id == id)) [
      | inl this ↦ (let e : Some b ≡ None = sym (cond-true (b.id == id) (Some b) (find (λ x. x.id == id) bs) this) ∙ none in absurd (cc))
      | inr other ↦
          ap (λ t. t || has_id (ids_of bs) id) other
          ∙ none_has bs id (sym (cond-false (b.id == id) (Some b) (find (λ x. x.id == id) bs) other) ∙ none)
    ]

pub times_split : (id : ℕ) (test : Path × Form → Bool) (rows : List (Path × Form)) →
    times id (blocks_in (filter test rows)) + times id (blocks_in (filter (λ row. not (test row)) rows)) ≡ times id (blocks_in rows)
times_split id test [] = refl
times_split id test (row ∷ rows) =
    let rest = times_split id test rows in
    let all = times-append id (blocks_of row.1) (blocks_in rows) in
    elim (test row) as (λ t. times id (blocks_in (cond t (row ∷ filter test rows) (filter test rows)))
    + times id (blocks_in (cond (not t) (row ∷ filter (λ r. not (test r)) rows) (filter (λ r. not (test r)) rows))) ≡ times id (blocks_in (row ∷ rows))) [
      | true ↦ omega (arith, rest, all, times-append id (blocks_of row.1) (blocks_in (filter test rows)))
      | false ↦ omega (arith, rest, all, times-append id (blocks_of row.1) (blocks_in (filter (λ r. not (test r)) rows)))
    ]

-- ---- the general law

-- what an edit that touched this may do to the blocks
pub record Tells (n new : Namespace) (t : Touched) : Type 0 where
  pub into : (r : BlockRow) → Includes t.changed r → Includes (block_rows new) r
  pub stays : (r : BlockRow) → Includes (block_rows n) r → has_id t.retired r.block.id ≡ false → has_id (changed_ids t) r.block.id ≡ false →
      Includes (block_rows new) r
  pub comes : (r : BlockRow) → Includes (block_rows new) r → Includes t.changed r ⊎ Includes (block_rows n) r
  pub gone : (r : BlockRow) → Includes (block_rows new) r → has_id t.retired r.block.id ≡ false

cases_row : (o : Option BlockRow) → ((r : BlockRow) × (o ≡ Some r)) ⊎ (o ≡ None)
cases_row (Some r) = inl (r, refl)
cases_row None = inr refl

-- the block of the row is the block
pub block_of_row : (n : Namespace) (id : ℕ) → option_map (λ r. r.block) (block_row_at n id) ≡ block_at n id
block_of_row n id = find_block (block_rows n) id ∙ ap (find (λ b. b.id == id)) (blocks_of_all n.rows)

no_block : (rs : List BlockRow) (id : ℕ) → find (λ r. r.block.id == id) rs ≡ None → find (λ b. b.id == id) (blocks_of_rows rs) ≡ None
no_block rs id none = sym (find_block rs id) ∙ ap (option_map (λ r. r.block)) none

no_row : (rs : List BlockRow) (id : ℕ) (r : BlockRow) → find (λ x. x.block.id == id) rs ≡ None → Includes rs r → r.block.id ≡ id → ⊥
no_row rs id r none here is = none_found (blocks_of_rows rs) id r.block (no_block rs id none) (block_has rs r here) is

pub tells : (n new : Namespace) (t : Touched) → HasWellFormedBlocks new → Tells n new t →
    (id : ℕ) → block_row_at new id ≡ row_after t (block_row_at n id) id
tells n new t w h id =
    let known : (r : BlockRow) → Includes (block_rows new) r → r.block.id ≡ id → block_row_at new id ≡ Some r = λ r here is.
    row_known (block_rows new) r id (subst (λ bs. times id bs ≤ 1) (sym (blocks_of_all new.rows)) (w.once id)) here is in
    let changed_or_before = or_before (find (λ r. r.block.id == id) t.changed) (block_row_at n id) in
    elim (cases_Bool (has_id t.retired id)) [
      | inl retired ↦
          elim (cases_row (block_row_at new id)) [
            | inl now ↦
                let at = row_found (block_rows new) id now.0 now.1 in
                absurd (both_ways _ (h.gone now.0 at.0) (subst (λ k. has_id t.retired k ≡ true) (sym at.1) retired))
            | inr none ↦ none
          ]
          ∙ sym (cond-true (has_id t.retired id) None changed_or_before retired)
      | inr here ↦
          elim (cases_row (find (λ r. r.block.id == id) t.changed)) [
            | inl changed ↦
                let at = row_found t.changed id changed.0 changed.1 in
                known changed.0 (h.into changed.0 at.0) at.1 ∙ ap (λ o. or_before o (block_row_at n id)) (sym changed.1)
            | inr unchanged ↦
                elim (cases_row (block_row_at n id)) [
                  | inl was ↦
                      let at = row_found (block_rows n) id was.0 was.1 in
                      let not_retired = subst (λ k. has_id t.retired k ≡ false) (sym at.1) here in
                      let not_changed = subst (λ k. has_id (changed_ids t) k ≡ false) (sym at.1) (none_has (changed_blocks t) id (no_block t.changed id unchanged)) in
                      known was.0 (h.stays was.0 at.0 not_retired not_changed) at.1 ∙ sym was.1
                  | inr none ↦
                      elim (cases_row (block_row_at new id)) [
                        | inl now ↦
                            let at = row_found (block_rows new) id now.0 now.1 in
                            elim (h.comes now.0 at.0) [
                              | inl there ↦ absurd (no_row t.changed id now.0 unchanged there at.1)
                              | inr there ↦ absurd (no_row (block_rows n) id now.0 none there at.1)
                            ]
                        | inr still ↦ still
                      ] ∙ sym none
                ] ∙ ap (λ o. or_before o (block_row_at n id)) (sym unchanged)
          ]
          ∙ sym (cond-false (has_id t.retired id) None changed_or_before here)
    ]

-- the law of the blocks follows from that of the rows
pub block_told : (t : Touched) (before : Option BlockRow) (id : ℕ) →
    option_map (λ r. r.block) (row_after t before id) ≡ block_after t (option_map (λ r. r.block) before) id
block_told t before id =
    elim (has_id t.retired id) as (λ gone. option_map (λ r. r.block) (cond gone None (or_before (find (λ r. r.block.id == id) t.changed) before))
    ≡ cond gone None (or_before (find (λ b. b.id == id) (changed_blocks t)) (option_map (λ r. r.block) before))) [
      | true ↦ refl
      | false ↦ told (find (λ r. r.block.id == id) t.changed) ∙ ap (λ o. or_before o (option_map (λ r. r.block) before)) (find_block t.changed id)
    ]
  where
    told : (o : Option BlockRow) → option_map (λ r. r.block) (or_before o before) ≡ or_before (option_map (λ r. r.block) o) (option_map (λ r. r.block) before)
    told (Some r) = refl
    told None = refl
