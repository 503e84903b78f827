-- The blocks of rows, each with whether its file is closed: where they come from and where they go.
use Rattle.std.proofs.Common.{◌≡◌, ℕ, ◌+◌, ◌≤◌, Bool, true, false, cond, List, [], ◌∷◌, ◌++◌, map, Option, Some, refl, sym, ap, subst, ◌∙◌}
use Rattle.std.proofs.Common.{inl, inr, arith}
use Rattle.std.specs.Prelude.{◌==◌, find, flat_map}
use Rattle.std.specs.Option.{option_map}
use Rattle.std.specs.FinMap.Entries.{find as find_entry, is_sorted, below_all}
use Rattle.std.proofs.lemmas.List.{map-append}
use Rattle.std.proofs.lemmas.Bool.{both_ways, cases_Bool, cond-true, cond-false, eqb-true, eq-eqb, and_parts, false_from_ne_true}
use Rattle.nn_types.specs.declared.block.Block.{Block}
use Rattle.nn_model.specs.declared.form.Form.{Form}
use Rattle.nn_model.specs.declared.form.Form.TheVariants.{Dir, File}
use Rattle.nn_model.specs.declared.form.BlockRow.{BlockRow}
use Rattle.nn_model.specs.Namespace.{Path, path_cmp, blocks_of}
use Rattle.nn_model.specs.Blocks.{block_row, block_rows_of}
use Rattle.nn_model.specs.WellFormed.{Includes, times}
use Rattle.nn_model.proofs.Dues.{has_either, blocks_in, stands_times}
use Rattle.nn_model.proofs.InRows.{all_at}
use Rattle.nn_model.proofs.Wells.{not_below}
use Rattle.nn_model.proofs.Prefixes.{same, same_true, same_self}

abbrev pub rows_in : List (Path × Form) → List BlockRow
rows_in rows = flat_map (λ row. block_rows_of row.1) rows

-- the rows of what stands at a path
abbrev pub rows_at : Option Form → List BlockRow
rows_at = all_at block_rows_of

-- ---- their blocks

abbrev pub blocks_of_rows : List BlockRow → List Block
blocks_of_rows rs = map (λ r. r.block) rs

pub just_blocks : (closed : Bool) (bs : List Block) → blocks_of_rows (map (λ b. block_row closed b) bs) ≡ bs
just_blocks closed [] = refl
just_blocks closed (b ∷ bs) = ap (λ xs. b ∷ xs) (just_blocks closed bs)

blocks_of_form : (form : Form) → blocks_of_rows (block_rows_of form) ≡ blocks_of form
blocks_of_form Dir = refl
blocks_of_form (File file) = just_blocks file.closed file.blocks

pub blocks_of_all : (rows : List (Path × Form)) → blocks_of_rows (rows_in rows) ≡ blocks_in rows
blocks_of_all [] = refl
blocks_of_all (row ∷ rows) =
    map-append (λ r. r.block) (block_rows_of row.1) (rows_in rows)
    ∙ (λ j. blocks_of_form row.1 j ++ blocks_of_all rows j)

pub block_has : (rs : List BlockRow) (r : BlockRow) → Includes rs r → Includes (blocks_of_rows rs) r.block
block_has [] r here = here
block_has (x ∷ rs) r (inl same) = inl (ap (λ y. y.block) same)
block_has (x ∷ rs) r (inr here) = inr (block_has rs r here)

pub find_block : (rs : List BlockRow) (id : ℕ) → option_map (λ r. r.block) (find (λ r. r.block.id == id) rs) ≡ find (λ b. b.id == id) (blocks_of_rows rs)
find_block [] id = refl
find_block (r ∷ rs) id =
    elim (r.block.id == id) as (λ t. option_map (λ x. x.block) (cond t (Some r) (find (λ x. x.block.id == id) rs))
    ≡ cond t (Some r.block) (find (λ b. b.id == id) (blocks_of_rows rs))) [
      | true ↦ refl
      | false ↦ find_block rs id
    ]

-- a row that is found stands there
pub row_found : (rs : List BlockRow) (id : ℕ) (r : BlockRow) → find (λ x. x.block.id == id) rs ≡ Some r → Includes rs r × (r.block.id ≡ id)
row_found [] id r found = absurd (cc)
row_found (x ∷ rs) id r found =
    elim (cases_Bool (x.block.id == id)) [
      | inl same ↦
          let e : Some x ≡ Some r = sym (cond-true (x.block.id == id) (Some x) (find (λ y. y.block.id == id) rs) same) ∙ found in
          let is : x ≡ r = cc in (inl is, ap (λ y. y.block.id) (sym is) ∙ eqb-true _ _ same)
      | inr other ↦
          let rest = row_found rs id r (sym (cond-false (x.block.id == id) (Some x) (find (λ y. y.block.id == id) rs) other) ∙ found) in
          (inr rest.0, rest.1)
    ]

-- where each id stands once, a row is found by its id
pub row_known : (rs : List BlockRow) (r : BlockRow) (id : ℕ) → times id (blocks_of_rows rs) ≤ 1 → Includes rs r → r.block.id ≡ id →
    find (λ x. x.block.id == id) rs ≡ Some r
row_known [] r id once here is = absurd here
row_known (x ∷ rs) r id once here is =
    elim (cases_Bool (x.block.id == id)) [
      | inl hit ↦
          let at_most : 1 + times id (blocks_of_rows rs) ≤ 1 = subst (λ t. cond t 1 0 + times id (blocks_of_rows rs) ≤ 1) hit once in
          cond-true (x.block.id == id) (Some x) (find (λ y. y.block.id == id) rs) hit
          ∙ elim here [
            | inl same ↦ ap Some same
            | inr later ↦ absurd (let more = stands_times (blocks_of_rows rs) r.block id (block_has rs r later) is in omega arith)
          ]
      | inr miss ↦
          cond-false (x.block.id == id) (Some x) (find (λ y. y.block.id == id) rs) miss
          ∙ elim here [
            | inl same ↦ absurd (both_ways _ miss (eq-eqb _ _ (ap (λ y. y.block.id) same ∙ is)))
            | inr later ↦ row_known rs r id (omega (arith, subst (λ t. cond t 1 0 + times id (blocks_of_rows rs) ≤ 1) miss once)) later is
          ]
    ]

-- ---- rows of a file

pub of_block : (closed : Bool) (bs : List Block) (b : Block) → Includes bs b → Includes (map (λ x. block_row closed x) bs) (block_row closed b)
of_block closed [] b here = here
of_block closed (x ∷ bs) b (inl same) = inl (ap (block_row closed) same)
of_block closed (x ∷ bs) b (inr here) = inr (of_block closed bs b here)

pub row_of_file : (closed : Bool) (bs : List Block) (r : BlockRow) → Includes (map (λ x. block_row closed x) bs) r → Includes bs r.block × (r.closed ≡ closed)
row_of_file closed [] r here = absurd here
row_of_file closed (x ∷ bs) r (inl same) = (inl (ap (λ y. y.block) same), ap (λ y. y.closed) (sym same))
row_of_file closed (x ∷ bs) r (inr here) = let rest = row_of_file closed bs r here in (inr rest.0, rest.1)

-- ---- by look-ups

-- each stands at some path
pub some_path : (rows : List (Path × Form)) → is_sorted path_cmp rows ≡ true → (r : BlockRow) → Includes (rows_in rows) r →
    (p : Path) × Includes (rows_at (find_entry path_cmp p rows)) r
some_path [] sorted r here = absurd here
some_path (row ∷ rows) sorted r here =
    let parts = and_parts (below_all path_cmp row.0 rows) (is_sorted path_cmp rows) sorted in
    let at : Path → Option Form = λ p. find_entry path_cmp p rows in
    elim (has_either (block_rows_of row.1) (rows_in rows) r here) [
      | inl own ↦ (row.0, subst (λ (o : Option Form). Includes (rows_at o) r) (sym (cond-true (same row.0 row.0) (Some row.1) (at row.0) (same_self row.0))) own)
      | inr later ↦
          let rest = some_path rows parts.1 r later in
          let apart : same rest.0 row.0 ≡ false = false_from_ne_true _ (λ one.
          subst (λ (o : Option Form). Includes (rows_at o) r) (ap at (same_true rest.0 row.0 one) ∙ not_below row.0 rows parts.0) rest.1) in
          (rest.0, subst (λ (o : Option Form). Includes (rows_at o) r) (sym (cond-false (same rest.0 row.0) (Some row.1) (at rest.0) apart)) rest.1)
    ]
