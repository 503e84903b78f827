-- What is due stays due along a log, whatever the lengths of blocks are: ids alone have to be in order.
use Rattle.std.proofs.Common.{◌≡◌, ℕ, zero, suc, ◌+◌, ◌≤◌, ◌<◌, Bool, true, false, cond, not, List, [], ◌∷◌, ◌++◌, take, map, None, refl, sym, subst, inl, inr, arith}
use Rattle.std.specs.Prelude.{◌==◌, filter}
use Rattle.std.specs.FinMap.Entries.{put, is_sorted, is_sorted-put, is_sorted-where_key}
use Rattle.std.proofs.lemmas.Bool.{both_ways, eqb-true, leb-false, cases_Bool, not-false}
use Rattle.nn_types.specs.declared.block.Block.{Block}
use Rattle.nn_types.specs.declared.edit.Edit.{Edit}
use Rattle.nn_types.specs.declared.edit.Edit.TheVariants.{StartSegment, EndSegment, Mkdir, Add, AddBlock, UpdateBlocks, Close, Append, Rename, Delete, SetReplication, AllocateBlockId, SetGenstamp}
use Rattle.nn_types.specs.declared.tx.Tx.{Tx}
use Rattle.nn_model.specs.declared.form.Form.{Form}
use Rattle.nn_model.specs.declared.form.Form.TheVariants.{Dir, File}
use Rattle.nn_model.specs.Namespace.{Path, path_cmp, Namespace, with_row, file_at, blocks_of, all_blocks, begins_with}
use Rattle.nn_model.specs.Apply.{first_fault, checks, refusal, effect, has_id, with_blocks, in_path_order, moved, list_checks}
use Rattle.nn_model.specs.Status.{due_in}
use Rattle.nn_model.specs.WellFormed.{Includes, times, HasWellFormedBlocks}
use Rattle.nn_model.specs.Log.{namespace_after, IsLog}
use Rattle.nn_model.proofs.Lookups.{paths_total}
use Rattle.nn_model.proofs.Dues.{HasIds, ids_of_well, goes_on, stands_times, blocks_in, all_none, when_none, filter_none, any_push, GoesOn, edit_goes_on}
use Rattle.nn_model.proofs.Wells.{times_in_order, times_moved, times-append, absent, from_T, to_T, times_put, times_filter, times_listed, sorted_in_order, filtered_out}
use Rattle.nn_model.proofs.Places.{DueAlong}

-- ---- what an edit keeps

module _ (n : Namespace) (w : HasIds n) where
  sorted_row : (p : Path) (form : Form) → is_sorted path_cmp (put path_cmp p form n.rows) ≡ true
  sorted_row p form = from_T _ (is_sorted-put path_cmp paths_total p form n.rows (to_T _ w.in_order))

  -- the blocks of the new namespace come from the old one's and from awaiting ids; nothing else is issued, and those don't await
  ids_from : (new : Namespace) → GoesOn n new → is_sorted path_cmp new.rows ≡ true → ((id : ℕ) → times id (all_blocks new) ≤ 1) →
      ((b : Block) → Includes (all_blocks new) b → has_id n.issued.awaiting b.id ≡ true → has_id new.issued.awaiting b.id ≡ false) →
      ((id : ℕ) → has_id new.issued.awaiting id ≡ true → id ≤ new.issued.last_block) → HasIds new
  ids_from new g sorted once added awaiting = record {
    in_order = sorted;
    once = once;
    issued = λ b here. elim (g.each b here) [
      | inl from ↦
          let was = w.issued from.0 from.1 in
          let low : b.id ≤ n.issued.last_block = subst (λ k. k ≤ n.issued.last_block) from.2 was.0 in
          (omega (arith, low, g.last), g.awaiting b.id low (subst (λ k. has_id n.issued.awaiting k ≡ false) from.2 was.1))
      | inr waits ↦ (omega (arith, w.awaiting b.id waits, g.last), added b here waits)
    ];
    awaiting = awaiting;
  }

  -- other rows, in which no id stands more often than before
  fewer_ids : (rows : List (Path × Form)) → GoesOn n (record n { rows = rows }) → is_sorted path_cmp rows ≡ true →
      ((id : ℕ) → times id (blocks_in rows) ≤ times id (all_blocks n)) →
      HasIds (record n { rows = rows })
  fewer_ids rows g sorted fewer = ids_from (record n { rows = rows }) g sorted (λ id. omega (arith, fewer id, w.once id))
      (λ b here waits.
      let none : times b.id (all_blocks n) ≡ 0 = absent b.id (all_blocks n)
      (λ a there is. both_ways _ (subst (λ k. has_id n.issued.awaiting k ≡ false) is (w.issued a there).1) waits) in
      let some : 1 ≤ times b.id (blocks_in rows) = stands_times (blocks_in rows) b b.id here refl in
      let at_most = fewer b.id in
      absurd (omega arith))
      w.awaiting

  row_ids : (p : Path) (form : Form) → GoesOn n (with_row n p form) → ((id : ℕ) → times id (blocks_of form) ≤ times id (file_at n p).blocks) →
      HasIds (with_row n p form)
  row_ids p form g fewer = fewer_ids (put path_cmp p form n.rows) g (sorted_row p form) (λ id. omega (arith, times_put id p form n.rows w.in_order, fewer id))

  list_ids : (p : Path) (bs : List Block) (closed : Bool) → GoesOn n (with_blocks n p bs closed) → first_fault (list_checks n p bs) ≡ None →
      HasIds (with_blocks n p bs closed)
  list_ids p bs closed g applies =
      let found = all_none (list_checks n p bs) applies in
      row_ids p (File (record { replication = (file_at n p).replication; closed = closed; blocks = bs })) g
      (λ id. times_listed id (file_at n p).blocks bs (not-false _ (when_none _ _ found.1.1.1.1.1.0)))

  add_block_ids : (p : Path) (i stamp : ℕ) → refusal n (AddBlock p i stamp) ≡ None → HasIds (effect n (AddBlock p i stamp))
  add_block_ids p i stamp applies =
      let found = all_none (checks n (AddBlock p i stamp)) applies in
      let waits : has_id n.issued.awaiting i ≡ true = not-false _ (when_none _ _ found.1.1.1.1.1.0) in
      let new : Block = record { id = i; stamp = stamp; len = 0 } in
      let blocks = (file_at n p).blocks ++ new ∷ [] in
      let form = File (record { replication = (file_at n p).replication; closed = false; blocks = blocks }) in
      let after = effect n (AddBlock p i stamp) in
      let away : (id : ℕ) → has_id n.issued.awaiting id ≡ true → times id (all_blocks n) ≡ 0 = λ id awaits.
      absent id (all_blocks n) (λ a there is. both_ways _ (subst (λ k. has_id n.issued.awaiting k ≡ false) is (w.issued a there).1) awaits) in
      let more : (id : ℕ) → times id (blocks_in (put path_cmp p form n.rows)) ≡ times id (all_blocks n) + times id (new ∷ []) = λ id.
      omega (arith, times_put id p form n.rows w.in_order, times-append id (file_at n p).blocks (new ∷ [])) in
      let other : (id : ℕ) → (i == id) ≡ false → times id (new ∷ []) ≡ 0 = λ id apart. subst (λ t. cond t 1 0 + 0 ≡ 0) (sym apart) (omega arith) in
      ids_from after (edit_goes_on n (AddBlock p i stamp) applies) (sorted_row p form)
      (λ id. elim (cases_Bool (i == id)) [
        | inl same ↦ (let one : times id (new ∷ []) ≡ 1 = subst (λ t. cond t 1 0 + 0 ≡ 1) (sym same) (omega arith) in
            omega (arith, more id, one, away id (subst (λ k. has_id n.issued.awaiting k ≡ true) (eqb-true i id same) waits)))
        | inr apart ↦ omega (arith, more id, other id apart, w.once id)
      ])
      (λ b here awaits. elim (cases_Bool (i == b.id)) [
        | inl same ↦ subst (λ k. has_id after.issued.awaiting k ≡ false) (eqb-true i b.id same) (filtered_out i n.issued.awaiting)
        | inr apart ↦ (let some : 1 ≤ times b.id (blocks_in (put path_cmp p form n.rows)) =
            stands_times (blocks_in (put path_cmp p form n.rows)) b b.id here refl in
            absurd (omega (arith, some, more b.id, other b.id apart, away b.id awaits)))
      ])
      (λ id still. w.awaiting id (elim (cases_Bool (has_id n.issued.awaiting id)) [
        | inl was ↦ was
        | inr none ↦ absurd (both_ways _ (filter_none (λ k. k == id) (λ k. not (k == i)) n.issued.awaiting none) still)
      ]))

  edit_ids : (edit : Edit) → refusal n edit ≡ None → HasIds (effect n edit)
  edit_ids (StartSegment profile) applies = record { in_order = w.in_order; once = w.once; issued = w.issued; awaiting = w.awaiting }
  edit_ids EndSegment applies = w
  edit_ids (Mkdir p) applies = row_ids p Dir (edit_goes_on n (Mkdir p) applies) (λ id. omega arith)
  edit_ids (Add p r) applies = row_ids p (File (record { replication = r; closed = false; blocks = [] })) (edit_goes_on n (Add p r) applies) (λ id. omega arith)
  edit_ids (AddBlock p i stamp) applies = add_block_ids p i stamp applies
  edit_ids (UpdateBlocks p bs) applies = list_ids p bs false (edit_goes_on n (UpdateBlocks p bs) applies) applies
  edit_ids (Close p bs) applies = list_ids p bs true (edit_goes_on n (Close p bs) applies) applies
  edit_ids (Append p) applies = row_ids p (File (record (file_at n p) { closed = false })) (edit_goes_on n (Append p) applies) (λ id. omega arith)
  edit_ids (Rename s d) applies =
      let rows = map (λ (row : Path × Form). (moved s d row.0, row.1)) n.rows in
      fewer_ids (in_path_order rows) (edit_goes_on n (Rename s d) applies) (sorted_in_order rows)
      (λ id. omega (arith, times_in_order id rows, times_moved id (moved s d) n.rows))
  edit_ids (Delete p) applies =
      fewer_ids (filter (λ row. not (begins_with p row.0)) n.rows) (edit_goes_on n (Delete p) applies)
      (from_T _ (is_sorted-where_key path_cmp (λ q. not (begins_with p q)) n.rows (to_T _ w.in_order)))
      (λ id. times_filter id (λ row. not (begins_with p row.0)) n.rows)
  edit_ids (SetReplication p r) applies = row_ids p (File (record (file_at n p) { replication = r })) (edit_goes_on n (SetReplication p r) applies)
      (λ id. omega arith)
  edit_ids (AllocateBlockId i) applies =
      let found = all_none (checks n (AllocateBlockId i)) applies in
      let above : n.issued.last_block < i = leb-false _ _ (when_none _ _ found.0) in
      ids_from (effect n (AllocateBlockId i)) (edit_goes_on n (AllocateBlockId i) applies) w.in_order w.once
      (λ b here waits. absurd (both_ways _ (w.issued b here).1 waits))
      (λ id still. elim (cases_Bool (has_id n.issued.awaiting id)) [
        | inl was ↦ omega (arith, w.awaiting id was)
        | inr none ↦ elim (cases_Bool (i == id)) [
          | inl same ↦ (let e : i ≡ id = eqb-true _ _ same in omega arith)
          | inr other ↦ absurd (both_ways _ (any_push (λ k. k == id) n.issued.awaiting i none other) still)
        ]
      ])
  edit_ids (SetGenstamp stamp) applies = record { in_order = w.in_order; once = w.once; issued = w.issued; awaiting = w.awaiting }

-- ---- along a log

due_after : (n : Namespace) (base : ℕ) (txs : List Tx) (l id stamp : ℕ) → IsLog n base txs → HasIds n → due_in n id stamp ≡ true →
    due_in (namespace_after n (take l txs)) id stamp ≡ true
due_after n base txs zero id stamp log w due = due
due_after n base [] (suc l) id stamp log w due = due
due_after n base (x ∷ txs) (suc l) id stamp log w due =
    due_after (effect n x.edit) x.txid txs l id stamp log.2 (edit_ids n w x.edit log.1)
    (goes_on n (effect n x.edit) w (edit_goes_on n x.edit log.1) id stamp due)

between : (n : Namespace) (base : ℕ) (txs : List Tx) → IsLog n base txs → HasIds n → DueAlong n txs
between n base txs log w zero l id stamp le due = due_after n base txs l id stamp log w due
between n base txs log w (suc k) zero id stamp le due = absurd (omega arith)
between n base [] log w (suc k) (suc l) id stamp le due = due
between n base (x ∷ txs) log w (suc k) (suc l) id stamp le due =
    between (effect n x.edit) x.txid txs log.2 (edit_ids n w x.edit log.1) k l id stamp (omega arith) due

pub due_along : (n : Namespace) (base : ℕ) (txs : List Tx) → IsLog n base txs → HasWellFormedBlocks n → DueAlong n txs
due_along n base txs log well = between n base txs log (ids_of_well n well)
