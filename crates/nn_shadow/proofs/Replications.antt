-- Which replication the blocks of a namespace have, before and after an edit.
use Rattle.std.proofs.Common.{◌≡◌, ℕ, ◌+◌, ◌≤◌, Bool, true, false, cond, not, ◌&&◌, List, [], ◌∷◌, ◌++◌, map, Option, Some, None, refl, sym, ap, subst, ◌∙◌, inl, inr, arith}
use Rattle.std.specs.Prelude.{◌==◌}
use Rattle.std.specs.FinMap.Entries.{find as find_entry, is_sorted, below_all}
use Rattle.std.proofs.lemmas.Bool.{both_ways, cases_Bool, cond-true, cond-false, eq-eqb, and_parts, false_from_ne_true}
use Rattle.std.proofs.lemmas.List.{map-append}
use Rattle.nn_types.specs.declared.block.Block.{Block}
use Rattle.nn_types.specs.declared.edit.Edit.{Edit}
use Rattle.nn_types.specs.declared.edit.Edit.TheVariants.{StartSegment, EndSegment, Mkdir, Add, AddBlock, UpdateBlocks, Close, Append, Rename, Delete}
use Rattle.nn_types.specs.declared.edit.Edit.TheVariants.{SetReplication, AllocateBlockId, SetGenstamp}
use Rattle.nn_types.specs.LawfulEdit.{IsLawfulEdit}
use Rattle.nn_model.specs.declared.form.Form.{Form}
use Rattle.nn_model.specs.declared.form.Form.TheVariants.{Dir, File}
use Rattle.nn_model.specs.declared.form.FileRow.{FileRow}
use Rattle.nn_model.specs.declared.form.BlockRow.{BlockRow}
use Rattle.nn_model.specs.Namespace.{Path, path_cmp, Namespace, lookup, with_row, file_at, file_or_none, blocks_of}
use Rattle.nn_model.specs.Blocks.{block_rows_of}
use Rattle.nn_model.specs.Apply.{has_id, refusal, effect, new_block, moved}
use Rattle.nn_model.specs.Touched.{touched, ids_of}
use Rattle.nn_model.specs.WellFormed.{Includes, times, IsWellFormed}
use Rattle.nn_model.specs.Replay.{is_named}
use Rattle.nn_model.proofs.Dues.{blocks_in, stands_times}
use Rattle.nn_model.proofs.InRows.{all_in, all_at, has_left, has_right, has_either, put_has, put_from, filter_from, order_from, moved_from, at_path}
use Rattle.nn_model.proofs.Members.{rows_in, blocks_of_rows, just_blocks}
use Rattle.nn_model.proofs.Prefixes.{same, same_true, same_self}
use Rattle.nn_model.proofs.Touches.{ids_has}
use Rattle.nn_model.proofs.Wells.{not_below, blocks_stay_well_formed}
use Rattle.nn_replicas.specs.Agreement.{replications_of, block_replications}
use Rattle.nn_tree.proofs.Does.{file_put}
use Rattle.nn_shadow.specs.Steps.{file_rows, file_after, rows_after}
use Rattle.nn_shadow.proofs.Edits.{block_of_id, leaves_are_retired, named_by}

-- ---- rows of a namespace

pub rows_there_in : (rows : List (Path × Form)) (row : Path × Form) (r : BlockRow) → Includes rows row → Includes (block_rows_of row.1) r → Includes (rows_in rows) r
rows_there_in [] row r there here = absurd there
rows_there_in (x ∷ rows) row r (inl same) here = has_left (block_rows_of x.1) (rows_in rows) r (subst (λ (y : Path × Form). Includes (block_rows_of y.1) r) (sym same) here)
rows_there_in (x ∷ rows) row r (inr there) here = has_right (block_rows_of x.1) (rows_in rows) r (rows_there_in rows row r there here)

-- a row that stands there is found by its path
pub found_row : (rows : List (Path × Form)) (row : Path × Form) → is_sorted path_cmp rows ≡ true → Includes rows row → find_entry path_cmp row.0 rows ≡ Some row.1
found_row [] row sorted here = absurd here
found_row (x ∷ rows) row sorted (inl own) =
    subst (λ (y : Path × Form). find_entry path_cmp y.0 (x ∷ rows) ≡ Some y.1) own (cond-true (same x.0 x.0) (Some x.1) (find_entry path_cmp x.0 rows) (same_self x.0))
found_row (x ∷ rows) row sorted (inr later) =
    let parts = and_parts (below_all path_cmp x.0 rows) (is_sorted path_cmp rows) sorted in
    let rest = found_row rows row parts.1 later in
    let apart : same row.0 x.0 ≡ false = false_from_ne_true _ (λ one.
    let none = ap (λ q. find_entry path_cmp q rows) (same_true row.0 x.0 one) ∙ not_below x.0 rows parts.0 in
    let no : Some row.1 ≡ None = sym rest ∙ none in absurd (cc)) in
    cond-false (same row.0 x.0) (Some x.1) (find_entry path_cmp row.0 rows) apart ∙ rest

-- ---- blocks with a replication

pub with_number : (bs : List Block) (k : ℕ) (b : Block) → Includes bs b → Includes {A = Block × ℕ} (map (λ (a : Block). (a, k)) bs) (b, k)
with_number [] k b here = here
with_number (a ∷ bs) k b (inl own) = inl (ap (λ (x : Block). (x, k)) own)
with_number (a ∷ bs) k b (inr later) = inr (with_number bs k b later)

pub of_number : (bs : List Block) (k : ℕ) (x : Block × ℕ) → Includes (map (λ (a : Block). (a, k)) bs) x → Includes bs x.0 × (k ≡ x.1)
of_number [] k x here = absurd here
of_number (a ∷ bs) k x (inl same) = (inl (ap (λ (y : Block × ℕ). y.0) same), ap (λ (y : Block × ℕ). y.1) same)
of_number (a ∷ bs) k x (inr later) = let rest = of_number bs k x later in (inr rest.0, rest.1)

blocks_numbered : (bs : List Block) (k : ℕ) → map (λ (x : Block × ℕ). x.0) (map (λ (a : Block). (a, k)) bs) ≡ bs
blocks_numbered [] k = refl
blocks_numbered (b ∷ bs) k = ap (λ xs. b ∷ xs) (blocks_numbered bs k)

pub blocks_of_form : (form : Form) → map (λ (x : Block × ℕ). x.0) (replications_of form) ≡ blocks_of form
blocks_of_form Dir = refl
blocks_of_form (File file) = blocks_numbered file.blocks file.replication

pub blocks_of_numbers : (rows : List (Path × Form)) → map (λ (x : Block × ℕ). x.0) (all_in replications_of rows) ≡ blocks_in rows
blocks_of_numbers [] = refl
blocks_of_numbers (row ∷ rows) =
    map-append (λ (x : Block × ℕ). x.0) (replications_of row.1) (all_in replications_of rows) ∙ (λ j. blocks_of_form row.1 j ++ blocks_of_numbers rows j)

pub block_there : (xs : List (Block × ℕ)) (x : Block × ℕ) → Includes xs x → Includes (map (λ (y : Block × ℕ). y.0) xs) x.0
block_there [] x here = here
block_there (y ∷ xs) x (inl same) = inl (ap (λ (z : Block × ℕ). z.0) same)
block_there (y ∷ xs) x (inr later) = inr (block_there xs x later)

pub block_in : (n : Namespace) (x : Block × ℕ) → Includes (block_replications n) x → Includes (blocks_in n.rows) x.0
block_in n x here = subst (λ bs. Includes bs x.0) (blocks_of_numbers n.rows) (block_there (block_replications n) x here)

-- where an id stands once, so does its replication
one_number : (xs : List (Block × ℕ)) (x y : Block × ℕ) (id : ℕ) → times id (map (λ (z : Block × ℕ). z.0) xs) ≤ 1 → Includes xs x → Includes xs y → x.0.id ≡ id → y.0.id ≡ id → x ≡ y
one_number [] x y id once at_x at_y is_x is_y = absurd at_x
one_number (z ∷ xs) x y id once at_x at_y is_x is_y = elim (cases_Bool (z.0.id == id)) [
  | inl hit ↦
      let at_most : 1 + times id (map (λ (w : Block × ℕ). w.0) xs) ≤ 1 = subst (λ t. cond t 1 0 + times id (map (λ (w : Block × ℕ). w.0) xs) ≤ 1) hit once in
      let first : (w : Block × ℕ) → Includes (z ∷ xs) w → w.0.id ≡ id → z ≡ w =
      λ w at is. elim at [
        | inl same ↦ same
        | inr later ↦ absurd (let more = stands_times (map (λ (v : Block × ℕ). v.0) xs) w.0 id (block_there xs w later) is in omega (arith, at_most, more))
      ] in
      sym (first x at_x is_x) ∙ first y at_y is_y
  | inr miss ↦
      let left : cond {A = ℕ} false 1 0 + times id (map (λ (w : Block × ℕ). w.0) xs) ≤ 1 = subst (λ t. cond t 1 0 + times id (map (λ (w : Block × ℕ). w.0) xs) ≤ 1) miss once in
      let rest : times id (map (λ (w : Block × ℕ). w.0) xs) ≤ 1 = omega (arith, left) in
      let later : (w : Block × ℕ) → Includes (z ∷ xs) w → w.0.id ≡ id → Includes xs w =
      λ w at is. elim at [
        | inl same ↦ absurd (both_ways _ miss (ap (λ (v : Block × ℕ). v.0.id == id) same ∙ eq-eqb _ _ is))
        | inr there ↦ there
      ] in
      one_number xs x y id rest (later x at_x is_x) (later y at_y is_y) is_x is_y
]

-- ---- what an edit leaves

-- what the namespace has after it is not retired
pub not_retired : (n : Namespace) (edit : Edit) → IsLawfulEdit edit → refusal n edit ≡ None → IsWellFormed n → (x : Block × ℕ) → Includes (block_replications (effect n edit)) x →
    has_id (touched n edit).retired x.0.id ≡ false
not_retired n edit lawful applies w x here =
    sym (leaves_are_retired n edit lawful applies w x.0.id)
    ∙ ap (λ b. is_named n x.0.id && not b) (named_by (effect n edit) x.0.id x.0 (block_in (effect n edit) x here) refl) ∙ never (is_named n x.0.id)
  where
    never : (b : Bool) → (b && false) ≡ false
    never true = refl
    never false = refl

file_put_has : (n : Namespace) (p : Path) (file : FileRow) (b : Block) → Includes file.blocks b →
    Includes (block_replications (with_row n p (File file))) (b, (file_at (with_row n p (File file)) p).replication)
file_put_has n p file b here =
    subst (λ (f : FileRow). Includes (block_replications (with_row n p (File file))) (b, f.replication)) (sym (file_put n p file))
    (put_has replications_of p (File file) n.rows (b, file.replication) (with_number file.blocks file.replication b here))

-- the rows that are set are of the file's blocks
rows_are_in : (n : Namespace) (edit : Edit) (b : Block) → Includes (blocks_of_rows (rows_after (effect n edit) edit (touched n edit))) b →
    Includes (block_replications (effect n edit)) (b, (file_after (effect n edit) edit).replication)
rows_are_in n (StartSegment profile) b here = absurd here
rows_are_in n EndSegment b here = absurd here
rows_are_in n (Mkdir p) b here = absurd here
rows_are_in n (Add p r) b here = absurd here
rows_are_in n (AddBlock p i stamp) b here =
    let old = (file_at n p).blocks in
    file_put_has n p (record { replication = (file_at n p).replication; closed = false; blocks = old ++ new_block i stamp ∷ [] }) b (has_right old (new_block i stamp ∷ []) b here)
rows_are_in n (UpdateBlocks p bs) b here =
    file_put_has n p (record { replication = (file_at n p).replication; closed = false; blocks = bs }) b (subst (λ xs. Includes xs b) (just_blocks false bs) here)
rows_are_in n (Close p bs) b here =
    file_put_has n p (record { replication = (file_at n p).replication; closed = true; blocks = bs }) b (subst (λ xs. Includes xs b) (just_blocks true bs) here)
rows_are_in n (Append p) b here =
    file_put_has n p (record { replication = (file_at n p).replication; closed = false; blocks = (file_at n p).blocks }) b (subst (λ xs. Includes xs b) (just_blocks false (file_at n p).blocks) here)
rows_are_in n (Rename s d) b here = absurd here
rows_are_in n (Delete p) b here = absurd here
rows_are_in n (SetReplication p r) b here =
    let file : FileRow = record (file_at n p) { replication = r } in
    file_put_has n p file b
    (subst (λ xs. Includes xs b) (ap (λ (f : FileRow). blocks_of_rows (file_rows f)) (file_put n p file) ∙ just_blocks (file_at n p).closed (file_at n p).blocks) here)
rows_are_in n (AllocateBlockId i) b here = absurd here
rows_are_in n (SetGenstamp stamp) b here = absurd here

-- a block whose row is set has the replication that is set
pub set_is_own : (n : Namespace) (edit : Edit) → IsLawfulEdit edit → refusal n edit ≡ None → IsWellFormed n → (x : Block × ℕ) → Includes (block_replications (effect n edit)) x →
    has_id (ids_of (blocks_of_rows (rows_after (effect n edit) edit (touched n edit)))) x.0.id ≡ true → (file_after (effect n edit) edit).replication ≡ x.1
set_is_own n edit lawful applies w x here set =
    let own = block_of_id (blocks_of_rows (rows_after (effect n edit) edit (touched n edit))) x.0.id set in
    let new = blocks_stay_well_formed n edit lawful applies w.blocks in
    let once = subst (λ bs. times x.0.id bs ≤ 1) (sym (blocks_of_numbers (effect n edit).rows)) (new.once x.0.id) in
    ap (λ (y : Block × ℕ). y.1)
    (one_number (block_replications (effect n edit)) (own.0, (file_after (effect n edit) edit).replication) x x.0.id once (rows_are_in n edit own.0 own.1) here own.2 refl)

-- ---- a block whose row is not set stood before, with its replication

numbers_at : (o : Option Form) → all_at replications_of o ≡ map (λ (b : Block). (b, (file_or_none o).replication)) (file_or_none o).blocks
numbers_at None = refl
numbers_at (Some Dir) = refl
numbers_at (Some (File file)) = refl

stood_at : (n : Namespace) (p : Path) (x : Block × ℕ) → Includes (file_at n p).blocks x.0 → (file_at n p).replication ≡ x.1 → Includes (block_replications n) x
stood_at n p x here is =
    at_path replications_of p n.rows x (subst (λ xs. Includes xs x) (sym (numbers_at (lookup n p)))
    (subst (λ k. Includes {A = Block × ℕ} (map (λ (b : Block). (b, (file_at n p).replication)) (file_at n p).blocks) (x.0, k)) is (with_number (file_at n p).blocks (file_at n p).replication x.0 here)))

-- what is put at a path is set, or stood before
put_before : (n : Namespace) (p : Path) (file : FileRow) (set : List Block) (x : Block × ℕ) → set ≡ file.blocks → Includes (block_replications (with_row n p (File file))) x →
    has_id (ids_of set) x.0.id ≡ false → Includes (block_replications n) x
put_before n p file set x is here other = elim (put_from replications_of p (File file) n.rows x here) [
  | inl own ↦ absurd (both_ways _ other (ids_has set x.0 x.0.id (subst (λ bs. Includes bs x.0) (sym is) (of_number file.blocks file.replication x own).0) refl))
  | inr there ↦ there
]

pub stood_before : (n : Namespace) (edit : Edit) (x : Block × ℕ) → Includes (block_replications (effect n edit)) x →
    has_id (ids_of (blocks_of_rows (rows_after (effect n edit) edit (touched n edit)))) x.0.id ≡ false → Includes (block_replications n) x
stood_before n (StartSegment profile) x here other = here
stood_before n EndSegment x here other = here
stood_before n (Mkdir p) x here other = elim (put_from replications_of p Dir n.rows x here) [ inl own ↦ absurd own | inr there ↦ there ]
stood_before n (Add p r) x here other = put_before n p (record { replication = r; closed = false; blocks = [] }) [] x refl here other
stood_before n (AddBlock p i stamp) x here other =
    let old = (file_at n p).blocks in
    let new = new_block i stamp ∷ [] in
    elim (put_from replications_of p (File (record { replication = (file_at n p).replication; closed = false; blocks = old ++ new })) n.rows x here) [
      | inl own ↦
          let at = of_number (old ++ new) (file_at n p).replication x own in
          elim (has_either old new x.0 at.0) [
            | inl before ↦ stood_at n p x before at.1
            | inr added ↦ absurd (both_ways _ other (ids_has new x.0 x.0.id added refl))
          ]
      | inr there ↦ there
    ]
stood_before n (UpdateBlocks p bs) x here other =
    put_before n p (record { replication = (file_at n p).replication; closed = false; blocks = bs }) _ x (just_blocks false bs) here other
stood_before n (Close p bs) x here other =
    put_before n p (record { replication = (file_at n p).replication; closed = true; blocks = bs }) _ x (just_blocks true bs) here other
stood_before n (Append p) x here other =
    put_before n p (record { replication = (file_at n p).replication; closed = false; blocks = (file_at n p).blocks }) _ x (just_blocks false (file_at n p).blocks) here other
stood_before n (Rename s d) x here other =
    moved_from replications_of (moved s d) n.rows x (order_from replications_of (map (λ row. (moved s d row.0, row.1)) n.rows) x here)
stood_before n (Delete p) x here other = filter_from replications_of _ n.rows x here
stood_before n (SetReplication p r) x here other =
    let file : FileRow = record (file_at n p) { replication = r } in
    put_before n p file _ x (ap (λ (f : FileRow). blocks_of_rows (file_rows f)) (file_put n p file) ∙ just_blocks (file_at n p).closed (file_at n p).blocks) here other
stood_before n (AllocateBlockId i) x here other = here
stood_before n (SetGenstamp stamp) x here other = here
