-- After each call no room in the table lies idle.
use Rattle.std.proofs.Common.{◌≡◌, ℕ, zero, suc, Bool, true, false, cond, List, [], ◌∷◌, map, Option, Some, None, is_some, refl, sym, ap, subst, ◌∙◌, inl, inr}
use Rattle.std.specs.Prelude.{◌==◌, ◌&&◌, ◌||◌, not, filter, take, unwrap_or}
use Rattle.std.specs.List.{list_any}
use Rattle.std.proofs.lemmas.Bool.{both_ways, cases_Bool, or_parts, or_cases, or_left, or_right, or_from, eqb-true, and_parts}
use Rattle.nn_types.specs.declared.report.Message.{Message}
use Rattle.nn_types.specs.declared.event.Cause.{Cause}
use Rattle.nn_types.specs.declared.event.Cause.TheVariants.{Due}
use Rattle.nn_types.specs.declared.edit.Edit.{Edit}
use Rattle.nn_types.specs.declared.edit.Edit.TheVariants.{StartSegment, EndSegment, Mkdir, Add, AddBlock, UpdateBlocks, Close, Append, Rename, Delete}
use Rattle.nn_types.specs.declared.edit.Edit.TheVariants.{SetReplication, AllocateBlockId, SetGenstamp}
use Rattle.nn_model.specs.declared.form.BlockRow.{BlockRow}
use Rattle.nn_model.specs.Namespace.{Namespace}
use Rattle.nn_model.specs.Apply.{has_id, effect}
use Rattle.nn_model.specs.History.{History, processed}
use Rattle.nn_model.specs.Touched.{Touched, touched, changed_ids, is_within, is_touched}
use Rattle.nn_replicas.specs.Table.{Replicas}
use Rattle.nn_replicas.specs.Entry.{no_entry}
use Rattle.nn_replicas.specs.Calls.{entry_at, row_at}
use Rattle.nn_replicas.specs.Effects.{has_row}
use Rattle.nn_replicas.specs.Order.{IsSortedTable}
use Rattle.nn_postponed.specs.Release.{same_source, must_wait, first_free, freed, still_waiting}
use Rattle.nn_postponed.proofs.Orders.{any_all}
use Rattle.nn_shadow.specs.Items.{TakesItems, LeavesItems, free_of, stuck_of}
use Rattle.nn_shadow.specs.Room.{is_waited_for, IsNeeded, IsTight, all_given_back, item_blocks, processed_blocks, skipped_blocks, given_back_after}
use Rattle.nn_shadow.specs.Steps.{messages_taken, all_placed, room_made_for, rows_set, rows_after, file_after, followed}
use Rattle.nn_shadow.specs.Touching.{due_untouched, IsQuiet}
use Rattle.nn_shadow.proofs.Apart.{messages_apart, places_apart, rows_apart, retired_apart, made_apart, rows_there, row_ids}
use Rattle.nn_shadow.proofs.GivenBack.{needed_alike, needed_row, all_given_in_order, all_needed_stays, all_needed_given}
use Rattle.nn_shadow.proofs.Lists.{first_waits}

-- ---- items

-- no item about the block is among some of them, where none is among all
none_among : (p : Message → Bool) (ms : List Message) (b : ℕ) → is_waited_for ms b ≡ false → is_waited_for (filter p ms) b ≡ false
none_among p [] b none = refl
none_among p (m ∷ ms) b none =
    let parts = or_parts (m.block == b) (is_waited_for ms b) none in
    let rest = none_among p ms b parts.1 in
    elim (p m) as (λ t. is_waited_for (cond t (m ∷ filter p ms) (filter p ms)) b ≡ false) [
      | true ↦ or_from (m.block == b) (is_waited_for (filter p ms) b) parts.0 rest
      | false ↦ rest
    ]

none_first : (n : ℕ) (ms : List Message) (b : ℕ) → is_waited_for ms b ≡ false → is_waited_for (take n ms) b ≡ false
none_first zero ms b none = refl
none_first (suc n) [] b none = refl
none_first (suc n) (m ∷ ms) b none =
    let parts = or_parts (m.block == b) (is_waited_for ms b) none in
    or_from (m.block == b) (is_waited_for (take n ms) b) parts.0 (none_first n ms b parts.1)

blocks_are : (ms : List Message) (b : ℕ) → has_id (item_blocks ms) b ≡ is_waited_for ms b
blocks_are [] b = refl
blocks_are (m ∷ ms) b = ap (λ t. (m.block == b) || t) (blocks_are ms b)

-- items were taken in
pub items_tight : {n : Namespace} {items was now : List Message} {h h_now : History} {t t_now : Replicas} → TakesItems n items h was t h_now now t_now →
    IsSortedTable (messages_taken (all_placed t items) (free_of n was items)) → IsTight was t → IsTight now t_now
items_tight {n} {items} {was} {now} {h} {h_now} {t} {t_now} takes o tight b =
    let free = free_of n was items in
    let taken = messages_taken (all_placed t items) free in
    subst (λ s. IsNeeded now s b) (sym takes.table) (elim (cases_Bool (is_waited_for items b)) [
      | inl about ↦ all_needed_given now taken (item_blocks items) b o (blocks_are items b ∙ about)
      | inr none ↦ all_needed_stays now taken (item_blocks items) b o
          (needed_alike was now t taken b (messages_apart (all_placed t items) free b (none_among _ items b none) ∙ places_apart t items b none)
          (λ w. ap (λ l. is_waited_for l b) takes.held ∙ any_all (λ m. m.block == b) was (stuck_of n was items) ∙ or_right (is_waited_for (stuck_of n was items) b) (is_waited_for was b) w) (tight b))
    ])

-- none was taken in
pub failed_tight : {items was now : List Message} {h h_now : History} {t t_now : Replicas} → LeavesItems items h was t h_now now t_now →
    ((k : ℕ) → IsSortedTable (all_placed t (take k items))) → IsTight was t → IsTight now t_now
failed_tight {items} {was} {now} {h} {h_now} {t} {t_now} left o tight b =
    subst (λ l. IsNeeded l t_now b) (sym left.held) (elim left.table [
      | inl same ↦ subst (λ s. IsNeeded was s b) (sym same) (tight b)
      | inr some ↦
          let placed = all_placed t (take some.0 items) in
          subst (λ s. IsNeeded was s b) (sym some.1) (elim (cases_Bool (is_waited_for items b)) [
            | inl about ↦ all_needed_given was placed (item_blocks items) b (o some.0) (blocks_are items b ∙ about)
            | inr none ↦ all_needed_stays was placed (item_blocks items) b (o some.0)
                (needed_alike was was t placed b (places_apart t (take some.0 items) b (none_first some.0 items b none)) (λ w. w) (tight b))
          ])
    ])

-- ---- an edit

-- nothing that is set free is about a block that the edit did not touch
untouched_stay : (what : Touched) (due : Message → Bool) (b : ℕ) → is_touched what b ≡ false → (s q ms : List Message) →
    ((y : Message) → (y.block == b) ≡ true → list_any (same_source y) s ≡ true → list_any (same_source y) q ≡ true) →
    first_free (due_untouched what due) s ms ≡ None → is_waited_for (freed due q ms) b ≡ false
untouched_stay what due b off s q [] more none = refl
untouched_stay what due b off s q (x ∷ ms) more none =
    let f = first_waits (due_untouched what due) s x ms none in
    elim (must_wait due q x) as (λ t. must_wait due q x ≡ t → is_waited_for (cond t (freed due (x ∷ q) ms) (x ∷ freed due q ms)) b ≡ false) [
      | true ↦ λ e. untouched_stay what due b off (x ∷ s) (x ∷ q) ms
          (λ y own h. elim (or_cases (same_source y x) (list_any (same_source y) s) h) [
            | inl this ↦ or_left (same_source y x) (list_any (same_source y) q) this
            | inr before ↦ or_right (same_source y x) (list_any (same_source y) q) (more y own before)
          ]) f.1
      | false ↦ λ e. elim (cases_Bool (x.block == b)) [
        | inl own ↦ absurd (both_ways (must_wait due q x) e (elim (or_cases (not (due_untouched what due x)) (list_any (same_source x) s) f.0) [
          | inl late ↦ or_left (not (due x)) (list_any (same_source x) q)
              (ap (λ t. not (not t && due x)) (sym off ∙ ap (is_touched what) (sym (eqb-true x.block b own))) ∙ late)
          | inr behind ↦ or_right (not (due x)) (list_any (same_source x) q) (more x own behind)
        ]))
        | inr other ↦ or_from (x.block == b) (is_waited_for (freed due q ms) b) other
            (untouched_stay what due b off (x ∷ s) q ms
            (λ y own h. elim (or_cases (same_source y x) (list_any (same_source y) s) h) [
              | inl this ↦ absurd (both_ways (x.block == b) other
                  (ap (λ k. k == b) (eqb-true x.block y.block (and_parts (x.dn == y.dn) (x.block == y.block) this).1) ∙ own))
              | inr before ↦ more y own before
            ]) f.1)
      ]
    ] refl

freed_touched : (what : Touched) (due : Message → Bool) (held : List Message) (b : ℕ) → IsQuiet what due held → is_waited_for (freed due [] held) b ≡ true → is_touched what b ≡ true
freed_touched what due held b quiet about = elim (cases_Bool (is_touched what b)) [
  | inl hit ↦ hit
  | inr off ↦ absurd (both_ways (is_waited_for (freed due [] held) b) (untouched_stay what due b off [] [] held (λ y own h. h) quiet) about)
]

-- what is held about a block stays held, where nothing about it is set free
still_waited : (due : Message → Bool) (s ms : List Message) (b : ℕ) → is_waited_for (freed due s ms) b ≡ false → is_waited_for ms b ≡ is_waited_for (still_waiting due s ms) b
still_waited due s [] b none = refl
still_waited due s (x ∷ ms) b none = (elim (must_wait due s x) as (λ t. is_waited_for (cond t (freed due (x ∷ s) ms) (x ∷ freed due s ms)) b ≡ false →
    ((x.block == b) || is_waited_for ms b) ≡ is_waited_for (cond t (x ∷ still_waiting due (x ∷ s) ms) (still_waiting due s ms)) b) [
      | true ↦ λ h. ap (λ t. (x.block == b) || t) (still_waited due (x ∷ s) ms b h)
      | false ↦ λ h.
          let parts = or_parts (x.block == b) (is_waited_for (freed due s ms) b) h in
          ap (λ t. t || is_waited_for ms b) parts.0 ∙ still_waited due s ms b parts.1
    ]) none

told_are : (cause : Cause) (ms : List Message) (b : ℕ) → has_id (processed_blocks (map (processed cause) ms)) b ≡ is_waited_for ms b
told_are cause [] b = refl
told_are cause (m ∷ ms) b = ap (λ t. (m.block == b) || t) (told_are cause ms b)

skipped_told : (range : Option (ℕ × ℕ)) (events : History) (b : ℕ) → is_within range b ≡ true → has_id (processed_blocks events) b ≡ true → has_id (skipped_blocks range events) b ≡ true
skipped_told None events b within has = cc
skipped_told (Some range) events b within has = has

-- a block whose row is not set is none that the edit changed
unchanged : (n : Namespace) (edit : Edit) (b : ℕ) → has_id (row_ids (rows_after (effect n edit) edit (touched n edit))) b ≡ false → has_id (changed_ids (touched n edit)) b ≡ false
unchanged n (StartSegment profile) b h = h
unchanged n EndSegment b h = h
unchanged n (Mkdir p) b h = h
unchanged n (Add p r) b h = h
unchanged n (AddBlock p i stamp) b h = h
unchanged n (UpdateBlocks p bs) b h = h
unchanged n (Close p bs) b h = h
unchanged n (Append p) b h = h
unchanged n (Rename s d) b h = h
unchanged n (Delete p) b h = h
unchanged n (SetReplication p r) b h = refl
unchanged n (AllocateBlockId i) b h = h
unchanged n (SetGenstamp stamp) b h = h

-- a block whose row an edit set has a row, one that it retired is given back, and one that it passed over too, where an item about
-- it was set free. Of any other block nothing changed.
pub edit_tight : (n : Namespace) (t : Replicas) (edit : Edit) (due : Message → Bool) (held : List Message) →
    IsQuiet (touched n edit) due held → IsSortedTable (messages_taken (followed (effect n edit) edit (room_made_for t edit) (touched n edit)) (freed due [] held)) →
    ((b : ℕ) → row_at (messages_taken (followed (effect n edit) edit (room_made_for t edit) (touched n edit)) (freed due [] held)) b ≡ row_at (followed (effect n edit) edit (room_made_for t edit) (touched n edit)) b) →
    IsTight held t →
    IsTight (still_waiting due [] held)
    (given_back_after (still_waiting due [] held) (messages_taken (followed (effect n edit) edit (room_made_for t edit) (touched n edit)) (freed due [] held)) (touched n edit) (map (processed Due) (freed due [] held)))
edit_tight n t edit due held quiet o rows tight b = elim (cases_Bool (has_id what.retired b)) [
  | inl gone ↦ needed_more (all_needed_given now taken what.retired b o gone)
  | inr stays ↦ elim (cases_Bool (has_id (row_ids set) b)) [
    | inl changed ↦ needed_all (needed_row now taken b (ap is_some (rows b) ∙ row_now changed stays))
    | inr apart ↦ let other = unchanged n edit b apart in elim (cases_Bool (is_waited_for out b)) [
      | inl about ↦ all_needed_given now given skipped b given_o (skipped_told what.skipped events b (within other stays about) (told_are Due out b ∙ about))
      | inr none ↦ needed_all (needed_alike held now t taken b
          (messages_apart made out b none ∙ followed_apart apart stays)
          (λ w. sym (still_waited due [] held b none) ∙ w) (tight b))
    ]
  ]
]
  where
    what : Touched
    what = touched n edit

    out : List Message
    out = freed due [] held

    now : List Message
    now = still_waiting due [] held

    events : History
    events = map (processed Due) out

    made : Replicas
    made = followed (effect n edit) edit (room_made_for t edit) what

    taken : Replicas
    taken = messages_taken made out

    given : Replicas
    given = all_given_back now taken what.retired

    skipped : List ℕ
    skipped = skipped_blocks what.skipped events

    given_o : IsSortedTable given
    given_o = all_given_in_order now taken what.retired o

    needed_more : IsNeeded now given b → IsNeeded now (all_given_back now given skipped) b
    needed_more = all_needed_stays now given skipped b given_o

    needed_all : IsNeeded now taken b → IsNeeded now (all_given_back now given skipped) b
    needed_all needed = needed_more (all_needed_stays now taken what.retired b o needed)

    set : List BlockRow
    set = rows_after (effect n edit) edit what

    r : ℕ
    r = (file_after (effect n edit) edit).replication

    row_now : has_id (row_ids set) b ≡ true → has_id what.retired b ≡ false → has_row made b ≡ true
    row_now changed stays = ap (λ o. is_some (unwrap_or o no_entry).row) (retired_apart (rows_set (room_made_for t edit) set r) what.retired b stays) ∙ rows_there (room_made_for t edit) set r b changed

    followed_apart : has_id (row_ids set) b ≡ false → has_id what.retired b ≡ false → entry_at made b ≡ entry_at t b
    followed_apart apart stays =
        retired_apart (rows_set (room_made_for t edit) set r) what.retired b stays
        ∙ rows_apart (room_made_for t edit) set r b apart ∙ made_apart n t edit b (unchanged n edit b apart)

    within : has_id (changed_ids what) b ≡ false → has_id what.retired b ≡ false → is_waited_for out b ≡ true → is_within what.skipped b ≡ true
    within other stays about = elim (or_cases (has_id (changed_ids what) b || has_id what.retired b) (is_within what.skipped b) (freed_touched what due held b quiet about)) [
      | inl written ↦ absurd (both_ways (has_id (changed_ids what) b || has_id what.retired b) (or_from (has_id (changed_ids what) b) (has_id what.retired b) other stays) written)
      | inr passed ↦ passed
    ]
