-- Edits keep a namespace well formed in its blocks.
use Rattle.std.proofs.Common.{◌≡◌, ℕ, ◌+◌, ◌≤◌, ◌<◌, Bool, true, false, cond, not, ◌&&◌, List, [], ◌∷◌, ◌++◌, map, Some, None, refl, sym, ap, subst, ◌∙◌, inl}
use Rattle.std.proofs.Common.{inr, arith, lit<}
use Rattle.std.specs.Prelude.{◌==◌, nat_le, nat_lt, filter, T}
use Rattle.std.specs.declared.cmp.Ordering.{Ordering}
use Rattle.std.specs.declared.cmp.Ordering.TheVariants.{Less, Equal, Greater}
use Rattle.std.specs.FinMap.Entries.{find as find_entry, put, by_order, is_sorted, below_all, is_sorted-put, is_sorted-where_key}
use Rattle.std.specs.Ordering.{nat_cmp, is_lt, is_eq}
use Rattle.std.specs.List.{AllByRecursion}
use Rattle.std.specs.Cmp.{nat_cmp_is}
use Rattle.std.specs.List.Sorted.{IsStrictlySortedBy}
use Rattle.std.proofs.lemmas.Bool.{or_parts, or_from, or_left, or_right, both_ways, and_parts, eqb-true, eq-eqb, ne_eqb, leb-true, leb-false, ltb-false}
use Rattle.std.proofs.lemmas.Bool.{and_from, cases_Bool, not-false}
use Rattle.std.proofs.lemmas.List.Kept.{IsStrictlySortedBy-filter}
use Rattle.nn_types.specs.declared.block.Block.{Block}
use Rattle.nn_types.specs.Block.{AreBlocks}
use Rattle.nn_types.specs.Number.{IsNumber}
use Rattle.nn_types.specs.declared.edit.Edit.{Edit}
use Rattle.nn_types.specs.declared.profile.Profile.{Profile}
use Rattle.nn_types.specs.declared.edit.Edit.TheVariants.{StartSegment, EndSegment, Mkdir, Add, AddBlock, UpdateBlocks, Close, Append, Rename, Delete, SetReplication}
use Rattle.nn_types.specs.declared.edit.Edit.TheVariants.{AllocateBlockId, SetGenstamp}
use Rattle.nn_types.specs.LawfulEdit.{IsLawfulEdit}
use Rattle.nn_model.specs.declared.form.Form.{Form}
use Rattle.nn_model.specs.declared.form.Form.TheVariants.{Dir, File}
use Rattle.nn_model.specs.Namespace.{Path, path_cmp, Issued, Namespace, no_block, no_stamp, with_row, file_at, file_or_none, blocks_of, all_blocks, begins_with}
use Rattle.nn_model.specs.Apply.{first_fault, checks, refusal, effect, has_id, keeps_ids, keeps_stamps, with_blocks, in_path_order, moved, list_checks}
use Rattle.nn_model.specs.WellFormed.{Includes, times, IsIssued, HasWellFormedBlocks}
use Rattle.nn_model.proofs.Dues.{has_either, blocks_in, file_has, listed, all_none, when_none}
use Rattle.nn_model.proofs.InRows.{put_from, order_from, moved_from, filter_from}
use Rattle.nn_model.proofs.Dues.{filter_none, any_push}
use Rattle.nn_model.proofs.Lookups.{paths_total}

-- ---- how often an id stands

pub times-append : (id : ℕ) (xs ys : List Block) → times id (xs ++ ys) ≡ times id xs + times id ys
times-append id [] ys = omega arith
times-append id (x ∷ xs) ys = omega (arith, times-append id xs ys)

pub absent : (id : ℕ) (bs : List Block) → ((b : Block) → Includes bs b → b.id ≡ id → ⊥) → times id bs ≡ 0
absent id [] away = refl
absent id (b ∷ bs) away =
    subst (λ t. cond t 1 0 + times id bs ≡ 0) (sym (ne_eqb _ _ (away b (inl refl)))) (omega (arith, absent id bs (λ x here. away x (inr here))))

times_put_le : (id : ℕ) (p : Path) (form : Form) (rows : List (Path × Form)) →
    times id (blocks_in (put path_cmp p form rows)) ≤ times id (blocks_of form) + times id (blocks_in rows)
times_put_le id p form [] = omega (arith, times-append id (blocks_of form) [])
times_put_le id p form (row ∷ rows) =
    elim (path_cmp p row.0) as (λ o. times id (blocks_in (by_order o ((p, form) ∷ row ∷ rows) ((row.0, form) ∷ rows) (row ∷ put path_cmp p form rows)))
    ≤ times id (blocks_of form) + times id (blocks_in (row ∷ rows))) [
      | Less ↦ omega (arith, times-append id (blocks_of form) (blocks_in (row ∷ rows)))
      | Equal ↦ omega (arith, times-append id (blocks_of form) (blocks_in rows), times-append id (blocks_of row.1) (blocks_in rows))
      | Greater ↦ omega (
        arith,
        times-append id (blocks_of row.1) (blocks_in (put path_cmp p form rows)),
        times-append id (blocks_of row.1) (blocks_in rows),
        times_put_le id p form rows,
      )
    ]

less_is : (o : Ordering) → is_lt o ≡ true → o ≡ Less
less_is Less h = refl
less_is Equal h = absurd (both_ways _ refl h)
less_is Greater h = absurd (both_ways _ refl h)

-- a path below all of these is not among them
pub not_below : (p : Path) (rows : List (Path × Form)) → below_all path_cmp p rows ≡ true → find_entry path_cmp p rows ≡ None
not_below p [] h = refl
not_below p (row ∷ rows) h =
    let parts = and_parts (is_lt (path_cmp p row.0)) (below_all path_cmp p rows) h in
    subst (λ o. cond (elim o as (λ _. Bool) [ Less ↦ false | Equal ↦ true | Greater ↦ false ]) (Some row.1) (find_entry path_cmp p rows) ≡ None)
    (sym (less_is _ parts.0)) (not_below p rows parts.1)

pub from_T : (b : Bool) → T b → b ≡ true
from_T true h = refl
from_T false h = absurd h

pub to_T : (b : Bool) → b ≡ true → T b
to_T true h = tt
to_T false h = absurd (both_ways _ refl h)

-- below one path is below all that are above it
pub below_less : (p k : Path) (rows : List (Path × Form)) → path_cmp p k ≡ Less → below_all path_cmp k rows ≡ true → below_all path_cmp p rows ≡ true
below_less p k [] less h = refl
below_less p k (row ∷ rows) less h =
    let parts = and_parts (is_lt (path_cmp k row.0)) (below_all path_cmp k rows) h in
    and_from (is_lt (path_cmp p row.0)) (below_all path_cmp p rows)
    (ap is_lt (paths_total.trans p k row.0 less (less_is _ parts.0))) (below_less p k rows less parts.1)

old_at : Path → List (Path × Form) → List Block
old_at p rows = (file_or_none (find_entry path_cmp p rows)).blocks

pub blocks_of_found : (form : Form) → (file_or_none (Some form)).blocks ≡ blocks_of form
blocks_of_found Dir = refl
blocks_of_found (File file) = refl

-- a row takes the place of what stood there
pub times_put : (id : ℕ) (p : Path) (form : Form) (rows : List (Path × Form)) → is_sorted path_cmp rows ≡ true →
    times id (blocks_in (put path_cmp p form rows)) + times id (file_or_none (find_entry path_cmp p rows)).blocks
    ≡ times id (blocks_of form) + times id (blocks_in rows)
times_put id p form [] sorted = omega (arith, times-append id (blocks_of form) [])
times_put id p form (row ∷ rows) sorted =
    let parts = and_parts (below_all path_cmp row.0 rows) (is_sorted path_cmp rows) sorted in
    elim (path_cmp p row.0) as (λ o. path_cmp p row.0 ≡ o →
    times id (blocks_in (by_order o ((p, form) ∷ row ∷ rows) ((row.0, form) ∷ rows) (row ∷ put path_cmp p form rows)))
    + times id (file_or_none (cond (is_eq o) (Some row.1) (find_entry path_cmp p rows))).blocks
    ≡ times id (blocks_of form) + times id (blocks_in (row ∷ rows))) [
      | Less ↦ λ e.
          let none : times id (file_or_none (find_entry path_cmp p rows)).blocks ≡ 0 =
          ap (λ o. times id (file_or_none o).blocks) (not_below p rows (below_less p row.0 rows e parts.0)) in
          omega (arith, none, times-append id (blocks_of form) (blocks_in (row ∷ rows)))
      | Equal ↦ λ e. omega (
        arith,
        ap (times id) (blocks_of_found row.1),
        times-append id (blocks_of form) (blocks_in rows),
        times-append id (blocks_of row.1) (blocks_in rows),
      )
      | Greater ↦ λ e. omega (
        arith,
        times-append id (blocks_of row.1) (blocks_in (put path_cmp p form rows)),
        times-append id (blocks_of row.1) (blocks_in rows),
        times_put id p form rows parts.1,
      )
    ] refl

pub times_filter : (id : ℕ) (test : Path × Form → Bool) (rows : List (Path × Form)) → times id (blocks_in (filter test rows)) ≤ times id (blocks_in rows)
times_filter id test [] = omega arith
times_filter id test (row ∷ rows) =
    elim (test row) as (λ t. times id (blocks_in (cond t (row ∷ filter test rows) (filter test rows))) ≤ times id (blocks_in (row ∷ rows))) [
      | true ↦ omega (
        arith,
        times-append id (blocks_of row.1) (blocks_in (filter test rows)),
        times-append id (blocks_of row.1) (blocks_in rows),
        times_filter id test rows,
      )
      | false ↦ omega (arith, times-append id (blocks_of row.1) (blocks_in rows), times_filter id test rows)
    ]

pub times_in_order : (id : ℕ) (rows : List (Path × Form)) → times id (blocks_in (in_path_order rows)) ≤ times id (blocks_in rows)
times_in_order id [] = omega arith
times_in_order id (row ∷ rows) =
    omega (arith, times_put_le id row.0 row.1 (in_path_order rows), times-append id (blocks_of row.1) (blocks_in rows), times_in_order id rows)

pub times_moved : (id : ℕ) (f : Path → Path) (rows : List (Path × Form)) → times id (blocks_in (map (λ row. (f row.0, row.1)) rows)) ≡ times id (blocks_in rows)
times_moved id f [] = refl
times_moved id f (row ∷ rows) =
    omega (
      arith,
      times-append id (blocks_of row.1) (blocks_in (map (λ r. (f r.0, r.1)) rows)),
      times-append id (blocks_of row.1) (blocks_in rows),
      times_moved id f rows,
    )

pub times_listed : (id : ℕ) (old new : List Block) → keeps_ids old new ≡ true → times id new ≤ times id old
times_listed id old [] ids = omega arith
times_listed id [] (y ∷ new) ids = absurd (both_ways _ refl ids)
times_listed id (a ∷ old) (y ∷ new) ids =
    let parts = and_parts (a.id == y.id) (keeps_ids old new) ids in
    let one : ℕ → ℕ = λ k. cond (k == id) 1 0 in
    let same : one a.id ≡ one y.id = ap one (eqb-true _ _ parts.0) in
    omega (arith, same, times_listed id old new parts.1)

-- a generation stamp of a new list is one that was issued
listed_top : (last : ℕ) (old new : List Block) (b : Block) → keeps_ids old new ≡ true → keeps_stamps last old new ≡ true → Includes new b → b.stamp ≤ last
listed_top last old [] b ids stamps here = absurd here
listed_top last [] (y ∷ new) b ids stamps here = absurd (both_ways _ refl ids)
listed_top last (a ∷ old) (y ∷ new) b ids stamps (inl same) =
    let here_and_later = and_parts (nat_le a.stamp y.stamp && nat_le y.stamp last) (keeps_stamps last old new) stamps in
    subst (λ z. z.stamp ≤ last) same (leb-true y.stamp last (and_parts (nat_le a.stamp y.stamp) (nat_le y.stamp last) here_and_later.0).1)
listed_top last (a ∷ old) (y ∷ new) b ids stamps (inr here) =
    listed_top last old new b (and_parts (a.id == y.id) (keeps_ids old new) ids).1
    (and_parts (nat_le a.stamp y.stamp && nat_le y.stamp last) (keeps_stamps last old new) stamps).1 here

pub sorted_in_order : (rows : List (Path × Form)) → is_sorted path_cmp (in_path_order rows) ≡ true
sorted_in_order [] = refl
sorted_in_order (row ∷ rows) = from_T _ (is_sorted-put path_cmp paths_total row.0 row.1 (in_path_order rows) (to_T _ (sorted_in_order rows)))

pub filtered_out : (i : ℕ) (ids : List ℕ) → has_id (filter (λ id. not (id == i)) ids) i ≡ false
filtered_out i [] = refl
filtered_out i (x ∷ ids) =
    elim (x == i) as (λ t. x == i ≡ t → has_id (cond (not t) (x ∷ filter (λ id. not (id == i)) ids) (filter (λ id. not (id == i)) ids)) i ≡ false) [
      | true ↦ λ e. filtered_out i ids
      | false ↦ λ e. or_from (x == i) (has_id (filter (λ id. not (id == i)) ids) i) e (filtered_out i ids)
    ] refl

-- the lengths of a lawful list are numbers
length_of : (bs : List Block) (b : Block) → AreBlocks bs → Includes bs b → IsNumber b.len
length_of [] b are here = absurd here
length_of (x ∷ bs) b are (inl same) = subst (λ y. IsNumber y.len) same are.0.2
length_of (x ∷ bs) b are (inr here) = length_of bs b are.1 here

-- an id above all others is the last
below_new : (x i : ℕ) (ids : List ℕ) → nat_cmp x i ≡ Less → AllByRecursion (λ y. nat_cmp x y ≡ Less) ids →
    AllByRecursion (λ y. nat_cmp x y ≡ Less) (ids ++ i ∷ [])
below_new x i [] less all = (less, tt)
below_new x i (y ∷ ids) less all = (all.0, below_new x i ids less all.1)

sorted_push : (ids : List ℕ) (i : ℕ) → ((id : ℕ) → has_id ids id ≡ true → id < i) → IsStrictlySortedBy nat_cmp ids → IsStrictlySortedBy nat_cmp (ids ++ i ∷ [])
unfolding IsStrictlySortedBy
sorted_push [] i above sorted = (tt, tt)
sorted_push (x ∷ ids) i above sorted = (
  below_new x i ids (sym (nat_cmp_is x i Less (above x (or_left (x == x) (has_id ids x) (eq-eqb x x refl))))) sorted.0,
  sorted_push ids i (λ id here. above id (or_right (x == id) (has_id ids id) here)) sorted.1,
)

-- a block that was issued is so where the last id and the last stamp are no lower and where it doesn't await
still_issued : (old new : Issued) (b : Block) → old.last_block ≤ new.last_block → old.last_stamp ≤ new.last_stamp → has_id new.awaiting b.id ≡ false →
    IsIssued old b → IsIssued new b
still_issued old new b block stamp free is = record {
  from_first = is.from_first;
  to_last = omega arith;
  not_awaiting = free;
  stamp_from = is.stamp_from;
  stamp_to = omega (arith, is.stamp_to);
  length = is.length;
}

-- ---- edit by edit

module _ (n : Namespace) (w : HasWellFormedBlocks n) where
  -- other rows, with the same ids and stamps issued and the same ids awaiting
  rows_well : (rows : List (Path × Form)) → is_sorted path_cmp rows ≡ true → ((id : ℕ) → times id (blocks_in rows) ≤ 1) →
      ((b : Block) → Includes (blocks_in rows) b → IsIssued n.issued b) → HasWellFormedBlocks (record n { rows = rows })
  rows_well rows sorted once issued = record {
    in_order = sorted;
    last_block_from = w.last_block_from;
    awaiting_in_order = w.awaiting_in_order;
    awaiting_from = w.awaiting_from;
    once = once;
    issued = issued;
  }

  sorted_row : (p : Path) (form : Form) → is_sorted path_cmp (put path_cmp p form n.rows) ≡ true
  sorted_row p form = from_T _ (is_sorted-put path_cmp paths_total p form n.rows (to_T _ w.in_order))

  row_well : (p : Path) (form : Form) → ((b : Block) → Includes (blocks_of form) b → IsIssued n.issued b) →
      ((id : ℕ) → times id (blocks_of form) ≤ times id (file_at n p).blocks) → HasWellFormedBlocks (with_row n p form)
  row_well p form new fewer =
      rows_well (put path_cmp p form n.rows) (sorted_row p form) (λ id. omega (arith, times_put id p form n.rows w.in_order, w.once id, fewer id))
      (λ b here. elim (put_from blocks_of p form n.rows b here) [ inl own ↦ new b own | inr old ↦ w.issued b old ])

  -- some of the rows, in another order or at other paths
  pub fewer_well : (rows : List (Path × Form)) → is_sorted path_cmp rows ≡ true → ((id : ℕ) → times id (blocks_in rows) ≤ times id (all_blocks n)) →
      ((b : Block) → Includes (blocks_in rows) b → Includes (all_blocks n) b) → HasWellFormedBlocks (record n { rows = rows })
  fewer_well rows sorted fewer old = rows_well rows sorted (λ id. omega (arith, fewer id, w.once id)) (λ b here. w.issued b (old b here))

  list_well : (p : Path) (bs : List Block) (now_closed : Bool) → AreBlocks bs → first_fault (list_checks n p bs) ≡ None →
      HasWellFormedBlocks (with_blocks n p bs now_closed)
  list_well p bs now_closed are applies =
      let found = all_none (list_checks n p bs) applies in
      let ids = not-false _ (when_none _ _ found.1.1.1.1.1.0) in
      let stamps = not-false _ (when_none _ _ found.1.1.1.1.1.1.0) in
      row_well p (File (record { replication = (file_at n p).replication; closed = now_closed; blocks = bs }))
      (λ b here.
      let a = listed n.issued.last_stamp (file_at n p).blocks bs b ids stamps here in
      let i = w.issued a.0 (file_has p n.rows a.0 a.1) in
      record {
        from_first = subst (λ k. no_block + 1 ≤ k) a.2 i.from_first;
        to_last = subst (λ k. k ≤ n.issued.last_block) a.2 i.to_last;
        not_awaiting = subst (λ k. has_id n.issued.awaiting k ≡ false) a.2 i.not_awaiting;
        stamp_from = omega (arith, i.stamp_from, a.3);
        stamp_to = listed_top n.issued.last_stamp (file_at n p).blocks bs b ids stamps here;
        length = length_of bs b are here;
      })
      (λ id. times_listed id (file_at n p).blocks bs ids)

  add_block_well : (p : Path) (i stamp : ℕ) → refusal n (AddBlock p i stamp) ≡ None → HasWellFormedBlocks (effect n (AddBlock p i stamp))
  add_block_well p i stamp applies =
      let found = all_none (checks n (AddBlock p i stamp)) applies in
      let waits : has_id n.issued.awaiting i ≡ true = not-false _ (when_none _ _ found.1.1.1.1.1.0) in
      let range = or_parts (nat_le stamp no_stamp) (nat_lt n.issued.last_stamp stamp) (when_none _ _ found.1.1.1.1.1.1.0) in
      let new : Block = record { id = i; stamp = stamp; len = 0 } in
      let form = File (record { replication = (file_at n p).replication; closed = false; blocks = (file_at n p).blocks ++ new ∷ [] }) in
      let after = effect n (AddBlock p i stamp) in
      let apart : (id : ℕ) → i ≡ id → times id (all_blocks n) ≡ 0 = λ id same.
      absent id (all_blocks n) (λ b here is. both_ways _ (w.issued b here).not_awaiting (subst (λ k. has_id n.issued.awaiting k ≡ true) (same ∙ sym is) waits)) in
      let freed : (id : ℕ) → has_id n.issued.awaiting id ≡ false → has_id after.issued.awaiting id ≡ false =
      λ id. filter_none (λ k. k == id) (λ k. not (k == i)) n.issued.awaiting in
      let old : (b : Block) → Includes (all_blocks n) b → IsIssued after.issued b = λ b there.
      (let is = w.issued b there in still_issued n.issued after.issued b (omega arith) (omega arith) (freed b.id is.not_awaiting) is) in
      record {
        in_order = sorted_row p form;
        last_block_from = w.last_block_from;
        awaiting_in_order = IsStrictlySortedBy-filter nat_cmp (λ id. not (id == i)) n.issued.awaiting w.awaiting_in_order;
        awaiting_from =
            λ id still. w.awaiting_from id (elim (cases_Bool (has_id n.issued.awaiting id)) [ inl was ↦ was | inr none ↦ absurd (both_ways _ (freed id none) still) ]);
        once = λ id. let t = times_put id p form n.rows w.in_order in let a = times-append id (file_at n p).blocks (new ∷ []) in
            elim (cases_Bool (i == id)) [
              | inl same ↦ (let one : times id (new ∷ []) ≡ 1 = subst (λ c. cond c 1 0 + 0 ≡ 1) (sym same) (omega arith) in
                  omega (arith, t, a, one, apart id (eqb-true _ _ same)))
              | inr other ↦ (let none : times id (new ∷ []) ≡ 0 = subst (λ c. cond c 1 0 + 0 ≡ 0) (sym other) (omega arith) in
                  omega (arith, t, a, none, w.once id))
            ];
        issued = λ b here. elim (put_from blocks_of p form n.rows b here) [
          | inl own ↦ elim (has_either (file_at n p).blocks (new ∷ []) b own) [
            | inl there ↦ old b (file_has p n.rows b there)
            | inr (inl same) ↦ subst (IsIssued after.issued) same (record {
              from_first = (w.awaiting_from i waits).0;
              to_last = (w.awaiting_from i waits).1;
              not_awaiting = filtered_out i n.issued.awaiting;
              stamp_from = omega (arith, leb-false _ _ range.0);
              stamp_to = ltb-false _ _ range.1;
              length = lit< tt;
            })
            | inr (inr none) ↦ absurd none
          ]
          | inr there ↦ old b there
        ];
      }

  allocate_well : (i : ℕ) → refusal n (AllocateBlockId i) ≡ None → HasWellFormedBlocks (effect n (AllocateBlockId i))
  allocate_well i applies =
      let found = all_none (checks n (AllocateBlockId i)) applies in
      let above : n.issued.last_block < i = leb-false _ _ (when_none _ _ found.0) in
      let after = effect n (AllocateBlockId i) in
      record {
        in_order = w.in_order;
        last_block_from = omega (arith, w.last_block_from);
        awaiting_in_order = sorted_push n.issued.awaiting i (λ id waits. omega (arith, (w.awaiting_from id waits).1)) w.awaiting_in_order;
        awaiting_from = λ id still. elim (cases_Bool (has_id n.issued.awaiting id)) [
          | inl was ↦ (let range = w.awaiting_from id was in (range.0, omega (arith, range.1)))
          | inr none ↦ elim (cases_Bool (i == id)) [
            | inl same ↦ (let e : i ≡ id = eqb-true _ _ same in (omega (arith, w.last_block_from), omega arith))
            | inr other ↦ absurd (both_ways _ (any_push (λ k. k == id) n.issued.awaiting i none other) still)
          ]
        ];
        once = w.once;
        issued = λ b here. let is = w.issued b here in
            still_issued n.issued after.issued b (omega arith) (omega arith)
            (any_push (λ k. k == b.id) n.issued.awaiting i is.not_awaiting (ne_eqb _ _ (λ same. omega (arith, is.to_last)))) is;
      }

  stamp_well : (stamp : ℕ) → refusal n (SetGenstamp stamp) ≡ None → HasWellFormedBlocks (effect n (SetGenstamp stamp))
  stamp_well stamp applies =
      let found = all_none (checks n (SetGenstamp stamp)) applies in
      let above : n.issued.last_stamp < stamp = leb-false _ _ (when_none _ _ found.0) in
      record {
        in_order = w.in_order;
        last_block_from = w.last_block_from;
        awaiting_in_order = w.awaiting_in_order;
        awaiting_from = w.awaiting_from;
        once = w.once;
        issued = λ b here. let is = w.issued b here in still_issued n.issued (effect n (SetGenstamp stamp)).issued b (omega arith) (omega arith) is.not_awaiting is;
      }

  -- another profile, with the same rows, ids and stamps
  profile_well : (profile : Profile) → HasWellFormedBlocks (record n { issued = record n.issued { profile = profile } })
  profile_well profile = record {
    in_order = w.in_order;
    last_block_from = w.last_block_from;
    awaiting_in_order = w.awaiting_in_order;
    awaiting_from = w.awaiting_from;
    once = w.once;
    issued = λ b here. let is = w.issued b here in still_issued n.issued (record n.issued { profile = profile }) b (omega arith) (omega arith) is.not_awaiting is;
  }

  pub edit_well : (edit : Edit) → IsLawfulEdit edit → refusal n edit ≡ None → HasWellFormedBlocks (effect n edit)
  edit_well (StartSegment profile) lawful applies = profile_well profile
  edit_well EndSegment lawful applies = w
  edit_well (Mkdir p) lawful applies = row_well p Dir (λ b none. absurd none) (λ id. omega arith)
  edit_well (Add p r) lawful applies = row_well p (File (record { replication = r; closed = false; blocks = [] })) (λ b none. absurd none) (λ id. omega arith)
  edit_well (AddBlock p i stamp) lawful applies = add_block_well p i stamp applies
  edit_well (UpdateBlocks p bs) lawful applies = list_well p bs false lawful.1 applies
  edit_well (Close p bs) lawful applies = list_well p bs true lawful.1 applies
  edit_well (Append p) lawful applies =
      row_well p (File (record (file_at n p) { closed = false })) (λ b here. w.issued b (file_has p n.rows b here)) (λ id. omega arith)
  edit_well (Rename s d) lawful applies =
      let rows = map (λ (row : Path × Form). (moved s d row.0, row.1)) n.rows in
      fewer_well (in_path_order rows) (sorted_in_order rows) (λ id. omega (arith, times_in_order id rows, times_moved id (moved s d) n.rows))
      (λ b here. moved_from blocks_of (moved s d) n.rows b (order_from blocks_of rows b here))
  edit_well (Delete p) lawful applies =
      fewer_well (filter (λ row. not (begins_with p row.0)) n.rows)
      (from_T _ (is_sorted-where_key path_cmp (λ q. not (begins_with p q)) n.rows (to_T _ w.in_order)))
      (λ id. times_filter id (λ row. not (begins_with p row.0)) n.rows) (λ b here. filter_from blocks_of (λ row. not (begins_with p row.0)) n.rows b here)
  edit_well (SetReplication p r) lawful applies =
      row_well p (File (record (file_at n p) { replication = r })) (λ b here. w.issued b (file_has p n.rows b here)) (λ id. omega arith)
  edit_well (AllocateBlockId i) lawful applies = allocate_well i applies
  edit_well (SetGenstamp stamp) lawful applies = stamp_well stamp applies

pub blocks_stay_well_formed : (n : Namespace) (edit : Edit) → IsLawfulEdit edit → refusal n edit ≡ None → HasWellFormedBlocks n →
    HasWellFormedBlocks (effect n edit)
blocks_stay_well_formed n edit lawful applies w = edit_well n w edit lawful applies
