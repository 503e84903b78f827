-- Edit by edit: what the edit touched tells the blocks after it, and whether their files are closed.
use Rattle.std.proofs.Common.{◌≡◌, ℕ, ◌+◌, ◌≤◌, Bool, true, false, cond, not, List, [], ◌∷◌, ◌++◌, length, drop, map, filter, Option, Some, None, refl, sym}
use Rattle.std.proofs.Common.{ap, subst, ◌∙◌, inl, inr, arith}
use Rattle.std.specs.Prelude.{◌⊎◌, ◌==◌}
use Rattle.std.specs.Option.{option_map}
use Rattle.std.specs.FinMap.Entries.{put}
use Rattle.std.proofs.lemmas.Bool.{both_ways, cases_Bool, eqb-true, eq-eqb, and_parts, or_left, or_right, false_from_ne_true, not-false}
use Rattle.std.proofs.lemmas.List.{map-append}
use Rattle.std.proofs.Math.Seq.{drop-append_seam}
use Rattle.nn_types.specs.declared.block.Block.{Block}
use Rattle.nn_types.specs.declared.edit.Edit.{Edit}
use Rattle.nn_types.specs.declared.edit.Edit.TheVariants.{StartSegment, EndSegment, Mkdir, Add, AddBlock, UpdateBlocks, Close, Append, Rename, Delete, SetReplication}
use Rattle.nn_types.specs.declared.edit.Edit.TheVariants.{AllocateBlockId, SetGenstamp}
use Rattle.nn_model.specs.declared.form.Form.{Form}
use Rattle.nn_model.specs.declared.form.Form.TheVariants.{Dir, File}
use Rattle.nn_model.specs.declared.form.BlockRow.{BlockRow}
use Rattle.nn_model.specs.Namespace.{Path, path_cmp, Namespace, lookup, with_row, file_at, file_or_none, begins_with}
use Rattle.nn_model.specs.Apply.{first_fault, checks, refusal, effect, has_id, keeps_ids, list_checks, with_blocks, new_block, moved}
use Rattle.nn_model.specs.Touched.{ids_of, nothing, listed, touched, block_after}
use Rattle.nn_model.specs.Blocks.{block_row, block_rows_of, block_rows, block_row_at}
use Rattle.nn_model.specs.WellFormed.{Includes, times, HasWellFormedBlocks, IsWellFormed}
use Rattle.nn_model.specs.Laws.{TouchedTells, RowsAreTold}
use Rattle.nn_model.proofs.Dues.{has_left, has_right, has_either, blocks_in, stands_times, all_none, when_none}
use Rattle.nn_model.proofs.Wells.{times_put, blocks_stay_well_formed}
use Rattle.nn_model.proofs.Prefixes.{begins_append, begins_split}
use Rattle.nn_model.proofs.Moves.{after_rename, at_target, elsewhere, nothing_below, lookup_rename}
use Rattle.nn_model.proofs.Trees.{absent}
use Rattle.nn_model.proofs.InRows.{put_has, put_keeps, put_from, filter_either, filter_from, order_from, moved_from, at_path}
use Rattle.nn_model.proofs.Members.{rows_in, rows_at, just_blocks, blocks_of_all, block_has, row_of_file, some_path}
use Rattle.nn_model.proofs.Touches.{Tells, tells, block_of_row, block_told, ids_has, ids_times, ascending_has, times_split}

-- ---- a new list of a file's blocks

-- each old id is in the new list, or among those that it leaves out
in_list_or_out : (old bs : List Block) (b : Block) → keeps_ids old bs ≡ true → Includes old b →
    (has_id (ids_of bs) b.id ≡ true) ⊎ (has_id (ids_of (drop (length bs) old)) b.id ≡ true)
in_list_or_out [] bs b keeps here = absurd here
in_list_or_out (a ∷ old) [] b keeps here = inr (ids_has (a ∷ old) b b.id here refl)
in_list_or_out (a ∷ old) (x ∷ bs) b keeps here =
    let parts = and_parts (a.id == x.id) (keeps_ids old bs) keeps in
    elim here [
      | inl same ↦ inl (or_left (x.id == b.id) (has_id (ids_of bs) b.id) (eq-eqb _ _ (sym (eqb-true _ _ parts.0) ∙ ap (λ y. y.id) same)))
      | inr later ↦ elim (in_list_or_out old bs b parts.1 later) [
        | inl listed_too ↦ inl (or_right (x.id == b.id) (has_id (ids_of bs) b.id) listed_too)
        | inr out ↦ inr out
      ]
    ]

times_of_list : (id : ℕ) (old bs : List Block) → keeps_ids old bs ≡ true → times id bs + times id (drop (length bs) old) ≡ times id old
times_of_list id [] [] keeps = refl
times_of_list id [] (x ∷ bs) keeps = absurd (both_ways _ refl keeps)
times_of_list id (a ∷ old) [] keeps = omega arith
times_of_list id (a ∷ old) (x ∷ bs) keeps =
    let parts = and_parts (a.id == x.id) (keeps_ids old bs) keeps in
    let one : ℕ → ℕ = λ k. cond (k == id) 1 0 in
    let same : one a.id ≡ one x.id = ap one (eqb-true _ _ parts.0) in
    omega (arith, same, times_of_list id old bs parts.1)

-- ---- edit by edit

abbrev rows_in_file : Namespace → Path → List BlockRow
rows_in_file n p = map (λ b. block_row (file_at n p).closed b) (file_at n p).blocks

-- the rows at a path are those of the file there
file_rows : (o : Option Form) → rows_at o ≡ map (λ b. block_row (file_or_none o).closed b) (file_or_none o).blocks
file_rows None = refl
file_rows (Some Dir) = refl
file_rows (Some (File file)) = refl

-- a row that stands has its block among the blocks, which then have its id
block_in : (rows : List (Path × Form)) (r : BlockRow) → Includes (rows_in rows) r → Includes (blocks_in rows) r.block
block_in rows r here = subst (λ bs. Includes bs r.block) (blocks_of_all rows) (block_has (rows_in rows) r here)

stands_in : (rows : List (Path × Form)) (r : BlockRow) → Includes (rows_in rows) r → 1 ≤ times r.block.id (blocks_in rows)
stands_in rows r here = stands_times (blocks_in rows) r.block r.block.id (block_in rows r here) refl

module _ (n : Namespace) (w : HasWellFormedBlocks n) where
  from_file : (p : Path) (r : BlockRow) → Includes (rows_in_file n p) r → Includes (block_rows n) r
  from_file p r here = at_path block_rows_of p n.rows r (subst (λ rs. Includes rs r) (sym (file_rows (lookup n p))) here)

  put_rest : (p : Path) (form : Form) (r : BlockRow) → Includes (block_rows n) r → Includes (block_rows (with_row n p form)) r ⊎ Includes (rows_in_file n p) r
  put_rest p form r here = elim (put_keeps block_rows_of p form n.rows r here) [
    | inl still ↦ inl still
    | inr there ↦ inr (subst (λ rs. Includes rs r) (file_rows (lookup n p)) there)
  ]

  -- a row with the same blocks, in a file that is closed or open as before
  same_row : (p : Path) (form : Form) → block_rows_of form ≡ rows_in_file n p → Tells n (with_row n p form) nothing
  same_row p form same = record {
    into = λ r none. absurd none;
    stays = λ r here _ _. elim (put_rest p form r here) [ inl still ↦ still | inr file ↦ put_has block_rows_of p form n.rows r (subst (λ rs. Includes rs r) (sym same) file) ];
    comes = λ r here. elim (put_from block_rows_of p form n.rows r here) [ inl own ↦ inr (from_file p r (subst (λ rs. Includes rs r) same own)) | inr there ↦ inr there ];
    gone = λ r here. refl;
  }

  added : (p : Path) (i stamp : ℕ) → (file_at n p).closed ≡ false → Tells n (effect n (AddBlock p i stamp)) (touched n (AddBlock p i stamp))
  added p i stamp is_open =
      let old = (file_at n p).blocks in
      let new = new_block i stamp ∷ [] in
      let form = File (record { replication = (file_at n p).replication; closed = false; blocks = old ++ new }) in
      let opened : rows_in_file n p ≡ map (λ b. block_row false b) old = ap (λ closed. map (λ b. block_row closed b) old) is_open in
      let halves : block_rows_of form ≡ map (λ b. block_row false b) old ++ map (λ b. block_row false b) new = map-append (λ b. block_row false b) old new in
      record {
        into = λ r here. put_has block_rows_of p form n.rows r (subst (λ rs. Includes rs r) (sym halves)
            (has_right (map (λ b. block_row false b) old) (map (λ b. block_row false b) new) r here));
        stays = λ r here _ _. elim (put_rest p form r here) [
          | inl still ↦ still
          | inr file ↦ put_has block_rows_of p form n.rows r (subst (λ rs. Includes rs r) (sym halves)
              (has_left (map (λ b. block_row false b) old) (map (λ b. block_row false b) new) r (subst (λ rs. Includes rs r) opened file)))
        ];
        comes = λ r here. elim (put_from block_rows_of p form n.rows r here) [
          | inl own ↦ elim (has_either (map (λ b. block_row false b) old) (map (λ b. block_row false b) new) r (subst (λ rs. Includes rs r) halves own)) [
            | inl file ↦ inr (from_file p r (subst (λ rs. Includes rs r) (sym opened) file))
            | inr fresh ↦ inl fresh
          ]
          | inr there ↦ inr there
        ];
        gone = λ r here. refl;
      }

  relisted : (p : Path) (bs : List Block) (now_closed : Bool) → first_fault (list_checks n p bs) ≡ None →
      Tells n (with_blocks n p bs now_closed) (listed n p bs now_closed)
  relisted p bs now_closed applies =
      let old = (file_at n p).blocks in
      let keeps : keeps_ids old bs ≡ true = not-false _ (when_none _ _ (all_none (list_checks n p bs) applies).1.1.1.1.1.0) in
      let form = File (record { replication = (file_at n p).replication; closed = now_closed; blocks = bs }) in
      record {
        into = λ r here. put_has block_rows_of p form n.rows r here;
        stays = λ r here retired changed. elim (put_rest p form r here) [
          | inl still ↦ still
          | inr file ↦ elim (in_list_or_out old bs r.block keeps (row_of_file (file_at n p).closed old r file).0) [
            | inl in_list ↦ absurd (both_ways _ (ap (λ xs. has_id (ids_of xs) r.block.id) (sym (just_blocks now_closed bs)) ∙ changed) in_list)
            | inr out ↦ absurd (both_ways _ retired out)
          ]
        ];
        comes = λ r here. elim (put_from block_rows_of p form n.rows r here) [ inl own ↦ inl own | inr there ↦ inr there ];
        gone = λ r here. false_from_ne_true _ (λ out.
            let stands = stands_in (put path_cmp p form n.rows) r here in
            let left_out = ids_times (drop (length bs) old) r.block.id out in
            omega (arith, stands, left_out, times_of_list r.block.id old bs keeps, times_put r.block.id p form n.rows w.in_order, w.once r.block.id));
      }

  reopened : (p : Path) → Tells n (effect n (Append p)) (touched n (Append p))
  reopened p =
      let bs = (file_at n p).blocks in
      let form = File (record { replication = (file_at n p).replication; closed = false; blocks = bs }) in
      record {
        into = λ r here. put_has block_rows_of p form n.rows r here;
        stays = λ r here _ changed. elim (put_rest p form r here) [
          | inl still ↦ still
          | inr file ↦
              let stands = (row_of_file (file_at n p).closed bs r file).0 in
              let told : has_id (ids_of bs) r.block.id ≡ false = ap (λ xs. has_id (ids_of xs) r.block.id) (sym (just_blocks false bs)) ∙ changed in
              absurd (both_ways _ told (ids_has bs r.block r.block.id stands refl))
        ];
        comes = λ r here. elim (put_from block_rows_of p form n.rows r here) [ inl own ↦ inl own | inr there ↦ inr there ];
        gone = λ r here. refl;
      }

  deleted : (p : Path) → Tells n (effect n (Delete p)) (touched n (Delete p))
  deleted p =
      let test : Path × Form → Bool = λ row. begins_with p row.0 in
      let goes = filter test n.rows in
      record {
        into = λ r none. absurd none;
        stays = λ r here retired _. elim (filter_either block_rows_of test n.rows r here) [
          | inl below ↦
              let went = ids_has (blocks_in goes) r.block r.block.id (block_in goes r below) refl in
              absurd (both_ways _ retired (ascending_has (ids_of (blocks_in goes)) r.block.id ∙ went))
          | inr still ↦ still
        ];
        comes = λ r here. inr (filter_from block_rows_of (λ row. not (begins_with p row.0)) n.rows r here);
        gone = λ r here. ascending_has (ids_of (blocks_in goes)) r.block.id ∙ false_from_ne_true _ (λ below.
            let stands = stands_in (filter (λ row. not (test row)) n.rows) r here in
            let went = ids_times (blocks_in goes) r.block.id below in
            omega (arith, stands, went, times_split r.block.id test n.rows, w.once r.block.id));
      }

  renamed : (s d : Path) → ((p : Path) → lookup (effect n (Rename s d)) p ≡ after_rename (lookup n) s d p) → ((rest : Path) → lookup n (d ++ rest) ≡ None) →
      Tells n (effect n (Rename s d)) nothing
  renamed s d look free = record {
    into = λ r none. absurd none;
    stays = λ r here _ _. (let at = some_path n.rows w.in_order r here in goes at.0 r at.1);
    comes = λ r here. inr (moved_from block_rows_of (moved s d) n.rows r (order_from block_rows_of (map (λ row. (moved s d row.0, row.1)) n.rows) r here));
    gone = λ r here. refl;
  }
    where
      there : (p q : Path) (r : BlockRow) → after_rename (lookup n) s d q ≡ lookup n p → Includes (rows_at (lookup n p)) r →
          Includes (block_rows (effect n (Rename s d))) r
      there p q r is here = at_path block_rows_of q (effect n (Rename s d)).rows r (subst (λ (o : Option Form). Includes (rows_at o) r) (sym (look q ∙ is)) here)

      goes : (p : Path) (r : BlockRow) → Includes (rows_at (lookup n p)) r → Includes (block_rows (effect n (Rename s d))) r
      goes p r here = elim (cases_Bool (begins_with s p)) [
        | inl below ↦
            let rest = drop (length s) p in
            let is = at_target (lookup n) s d (d ++ rest) (begins_append d rest)
            ∙ ap (λ q. lookup n (s ++ q)) (drop-append_seam d rest) ∙ ap (lookup n) (sym (begins_split s p below)) in
            there p (d ++ rest) r is here
        | inr apart ↦ elim (cases_Bool (begins_with d p)) [
          | inl under ↦
              let none = ap (lookup n) (begins_split d p under) ∙ free (drop (length d) p) in
              absurd (subst (λ (o : Option Form). Includes (rows_at o) r) none here)
          | inr beside ↦ there p p r (elsewhere (lookup n) s d p beside apart) here
        ]
      ]

-- ---- every edit

all_stays : (n new : Namespace) → block_rows new ≡ block_rows n → Tells n new nothing
all_stays n new same = record {
  into = λ r none. absurd none;
  stays = λ r here _ _. subst (λ rs. Includes rs r) (sym same) here;
  comes = λ r here. inr (subst (λ rs. Includes rs r) same here);
  gone = λ r here. refl;
}

no_rows : (n : Namespace) (p : Path) → lookup n p ≡ None → [] ≡ rows_in_file n p
no_rows n p none = sym (sym (file_rows (lookup n p)) ∙ ap rows_at none)

edit_tells : (n : Namespace) (edit : Edit) → IsWellFormed n → refusal n edit ≡ None → Tells n (effect n edit) (touched n edit)
edit_tells n (StartSegment profile) w applies = all_stays n (effect n (StartSegment profile)) refl
edit_tells n EndSegment w applies = all_stays n n refl
edit_tells n (Mkdir p) w applies =
    let ok = all_none (checks n (Mkdir p)) applies in same_row n w.blocks p Dir (no_rows n p (absent (lookup n p) ok.1.1.0))
edit_tells n (Add p r) w applies =
    let ok = all_none (checks n (Add p r)) applies in
    same_row n w.blocks p (File (record { replication = r; closed = false; blocks = [] })) (no_rows n p (absent (lookup n p) ok.1.1.1.0))
edit_tells n (AddBlock p i stamp) w applies =
    added n w.blocks p i stamp (when_none _ _ (all_none (checks n (AddBlock p i stamp)) applies).1.1.1.1.0)
edit_tells n (UpdateBlocks p bs) w applies = relisted n w.blocks p bs false applies
edit_tells n (Close p bs) w applies = relisted n w.blocks p bs true applies
edit_tells n (Append p) w applies = reopened n w.blocks p
edit_tells n (Rename s d) w applies =
    let ok = all_none (checks n (Rename s d)) applies in
    let free : (rest : Path) → lookup n (d ++ rest) ≡ None = λ rest. nothing_below (lookup n) w.parents d rest (absent (lookup n d) ok.1.1.1.1.1.1.0) in
    renamed n w.blocks s d (λ p. lookup_rename n.rows s d p free) free
edit_tells n (Delete p) w applies = deleted n w.blocks p
edit_tells n (SetReplication p r) w applies = same_row n w.blocks p (File (record (file_at n p) { replication = r })) refl
edit_tells n (AllocateBlockId i) w applies =
    let t = all_stays n (effect n (AllocateBlockId i)) refl in record { into = t.into; stays = t.stays; comes = t.comes; gone = t.gone }
edit_tells n (SetGenstamp stamp) w applies = all_stays n (effect n (SetGenstamp stamp)) refl

pub rows_told : RowsAreTold
rows_told n edit lawful applies w id =
    tells n (effect n edit) (touched n edit) (blocks_stay_well_formed n edit lawful applies w.blocks) (edit_tells n edit w applies) id

pub touched_tells : TouchedTells
touched_tells n edit lawful applies w id =
    sym (block_of_row (effect n edit) id)
    ∙ ap (option_map (λ r. r.block)) (rows_told n edit lawful applies w id)
    ∙ block_told (touched n edit) (block_row_at n id) id
    ∙ ap (λ o. block_after (touched n edit) o id) (block_of_row n id)
