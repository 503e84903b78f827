-- What is due stays due.
use Rattle.std.proofs.Common.{◌≡◌, ℕ, ◌+◌, ◌≤◌, ◌<◌, Bool, true, false, cond, not, List, [], ◌∷◌, ◌++◌, map, Some, None, Option, refl, sym, ap, subst, ◌∙◌}
use Rattle.std.proofs.Common.{inl, inr, arith}
use Rattle.std.specs.Prelude.{◌⊎◌, ◌==◌, nat_le, find, filter, flat_map, if◌then◌else◌}
use Rattle.std.specs.List.{list_any}
use Rattle.std.specs.Ordering.{eq_by_cmp}
use Rattle.std.specs.FinMap.Entries.{find as find_entry, is_sorted}
use Rattle.std.proofs.lemmas.Bool.{or_parts, or_from, both_ways, and_parts, eqb-true, eq-eqb, ne_eqb, leb-true, leb-false, le-leb, cases_Bool, cond-true}
use Rattle.std.proofs.lemmas.Bool.{cond-false, not-false}
use Rattle.nn_types.specs.declared.block.Block.{Block}
use Rattle.nn_types.specs.declared.status.Status.TheVariants.{Unnamed, Awaiting, Retired}
use Rattle.nn_types.specs.Due.{is_due}
use Rattle.nn_types.specs.declared.edit.Edit.{Edit}
use Rattle.nn_types.specs.declared.edit.Edit.TheVariants.{StartSegment, EndSegment, Mkdir, Add, AddBlock, UpdateBlocks, Close, Append, Rename, Delete, SetReplication}
use Rattle.nn_types.specs.declared.edit.Edit.TheVariants.{AllocateBlockId, SetGenstamp}
use Rattle.nn_model.specs.declared.form.Form.{Form}
use Rattle.nn_model.specs.declared.form.Form.TheVariants.{Dir, File}
use Rattle.nn_types.specs.declared.edit_fault.EditFault.{EditFault}
use Rattle.nn_model.specs.Namespace.{Path, path_cmp, Namespace, with_row, file_at, file_or_none, blocks_of, all_blocks, begins_with}
use Rattle.nn_model.specs.Apply.{first_fault, fault_if, checks, refusal, effect, has_id, keeps_ids, keeps_stamps, with_blocks, moved, list_checks}
use Rattle.nn_model.specs.Status.{block_at, status_unheld, status_from, due_in}
use Rattle.nn_model.specs.WellFormed.{Includes, times, HasWellFormedBlocks}
use Rattle.nn_model.proofs.InRows.{put_from, order_from, moved_from, filter_from}
pub use Rattle.nn_model.proofs.InRows.{has_left, has_right, has_either}

-- the blocks of rows
abbrev pub blocks_in : List (Path × Form) → List Block
blocks_in rows = flat_map (λ row. blocks_of row.1) rows

-- what is found by its id stands in the list
pub found_in : (bs : List Block) (id : ℕ) (b : Block) → find (λ x. x.id == id) bs ≡ Some b → Includes bs b × (b.id ≡ id)
found_in [] id b found = absurd (cc)
found_in (x ∷ bs) id b found =
    elim (cases_Bool (x.id == id)) [
      | inl same ↦ let e : Some x ≡ Some b = sym (cond-true (x.id == id) (Some x) (find (λ y. y.id == id) bs) same)
          ∙ found in let is : x ≡ b = cc in (inl is, ap (λ y. y.id) (sym is) ∙ eqb-true _ _ same)
      | inr other ↦ let rest = found_in bs id b (sym (cond-false (x.id == id) (Some x) (find (λ y. y.id == id) bs) other) ∙ found) in (inr rest.0, rest.1)
    ]

-- what stands in the list has an id that is found
pub none_found : (bs : List Block) (id : ℕ) (b : Block) → find (λ x. x.id == id) bs ≡ None → Includes bs b → b.id ≡ id → ⊥
none_found [] id b none here same = here
none_found (x ∷ bs) id b none here same =
    elim (cases_Bool (x.id == id)) [
      | inl this ↦ let e : Some x ≡ None = sym (cond-true (x.id == id) (Some x) (find (λ y. y.id == id) bs) this) ∙ none in cc
      | inr other ↦ elim here [
        | inl is ↦ both_ways _ other (eq-eqb _ _ (ap (λ y. y.id) is ∙ same))
        | inr later ↦ none_found bs id b (sym (cond-false (x.id == id) (Some x) (find (λ y. y.id == id) bs) other) ∙ none) later same
      ]
    ]

pub stands_times : (bs : List Block) (b : Block) (id : ℕ) → Includes bs b → b.id ≡ id → 1 ≤ times id bs
stands_times [] b id here same = absurd here
stands_times (x ∷ bs) b id here same =
    elim (cases_Bool (x.id == id)) [
      | inl hit ↦ subst (λ t. 1 ≤ cond t 1 0 + times id bs) (sym hit) (omega arith)
      | inr miss ↦ elim here [
        | inl is ↦ absurd (both_ways _ miss (eq-eqb _ _ (ap (λ y. y.id) is ∙ same)))
        | inr later ↦ subst (λ t. 1 ≤ cond t 1 0 + times id bs) (sym miss) (omega (arith, stands_times bs b id later same))
      ]
    ]

pub once_same : (bs : List Block) (x y : Block) → times y.id bs ≤ 1 → Includes bs x → Includes bs y → x.id ≡ y.id → x ≡ y
once_same [] x y once hx hy same = absurd hx
once_same (b ∷ bs) x y once hx hy same =
    elim (cases_Bool (b.id == y.id)) [
      | inl hit ↦
          let at_most : 1 + times y.id bs ≤ 1 = subst (λ t. cond t 1 0 + times y.id bs ≤ 1) hit once in
          elim hx [
            | inl bx ↦ elim hy [ inl ab ↦ sym bx ∙ ab | inr hy' ↦ absurd (let more = stands_times bs y y.id hy' refl in omega arith) ]
            | inr hx' ↦ absurd (let more = stands_times bs x y.id hx' same in omega arith)
          ]
      | inr miss ↦
          let rest : times y.id bs ≤ 1 = omega (arith, subst (λ t. cond t 1 0 + times y.id bs ≤ 1) miss once) in
          elim hx [
            | inl bx ↦ absurd (both_ways _ miss (eq-eqb _ _ (ap (λ z. z.id) bx ∙ same)))
            | inr hx' ↦ elim hy [ inl ab ↦ absurd (both_ways _ miss (eq-eqb _ _ (ap (λ z. z.id) ab))) | inr hy' ↦ once_same bs x y rest hx' hy' same ]
          ]
    ]

-- ---- the general law

-- where a block of the new namespace comes from: from one of the old with the same id and no greater stamp, or from an awaiting id
abbrev pub Comes : Namespace → Block → Type 0
Comes n b = ((a : Block) × Includes (all_blocks n) a × (a.id ≡ b.id) × (a.stamp ≤ b.stamp)) ⊎ (has_id n.issued.awaiting b.id ≡ true)

-- what an edit may do to the blocks, the ids and the awaiting ids
pub record GoesOn (n new : Namespace) : Type 0 where
  pub each : (b : Block) → Includes (all_blocks new) b → Comes n b
  pub last : n.issued.last_block ≤ new.issued.last_block
  pub awaiting : (id : ℕ) → id ≤ n.issued.last_block → has_id n.issued.awaiting id ≡ false → has_id new.issued.awaiting id ≡ false

-- what is said of an id that no file holds: it awaits, or was issued, or is still to come
said_awaiting : (n : Namespace) (id : ℕ) → has_id n.issued.awaiting id ≡ true → status_unheld n id ≡ Awaiting
said_awaiting n id waits = cond-true (has_id n.issued.awaiting id) Awaiting (if nat_le id n.issued.last_block then Retired else Unnamed) waits

said_issued : (n : Namespace) (id : ℕ) → has_id n.issued.awaiting id ≡ false → status_unheld n id ≡ (if nat_le id n.issued.last_block then Retired else Unnamed)
said_issued n id free = cond-false (has_id n.issued.awaiting id) Awaiting (if nat_le id n.issued.last_block then Retired else Unnamed) free

pub retired : (n : Namespace) (id stamp : ℕ) → block_at n id ≡ None → has_id n.issued.awaiting id ≡ false → id ≤ n.issued.last_block → due_in n id stamp ≡ true
retired n id stamp none free low =
    ap (λ b. is_due (status_from b (status_unheld n id)) stamp) none
    ∙ ap (λ s. is_due s stamp) (said_issued n id free ∙ cond-true (nat_le id n.issued.last_block) Retired Unnamed (le-leb _ _ low))

pub named : (n : Namespace) (id stamp : ℕ) (b : Block) → block_at n id ≡ Some b → stamp ≤ b.stamp → due_in n id stamp ≡ true
named n id stamp b found low = ap (λ o. is_due (status_from o (status_unheld n id)) stamp) found ∙ le-leb _ _ low

-- what due says
pub due_named : (n : Namespace) (id stamp : ℕ) (b : Block) → block_at n id ≡ Some b → due_in n id stamp ≡ true → stamp ≤ b.stamp
due_named n id stamp b found due = leb-true _ _ (sym (ap (λ o. is_due (status_from o (status_unheld n id)) stamp) found) ∙ due)

pub due_retired : (n : Namespace) (id stamp : ℕ) → block_at n id ≡ None → due_in n id stamp ≡ true → (has_id n.issued.awaiting id ≡ false) × (id ≤ n.issued.last_block)
due_retired n id stamp none due =
    let unnamed : is_due (status_unheld n id) stamp ≡ true = sym (ap (λ o. is_due (status_from o (status_unheld n id)) stamp) none) ∙ due in
    elim (cases_Bool (has_id n.issued.awaiting id)) [
      | inl waits ↦ absurd (both_ways _ refl (sym (ap (λ s. is_due s stamp) (said_awaiting n id waits)) ∙ unnamed))
      | inr free ↦ elim (cases_Bool (nat_le id n.issued.last_block)) [
        | inl low ↦ (free, leb-true _ _ low)
        | inr high ↦
            let said = said_issued n id free ∙ cond-false (nat_le id n.issued.last_block) Retired Unnamed high in
            absurd (both_ways _ refl (sym (ap (λ s. is_due s stamp) said) ∙ unnamed))
      ]
    ]

pub cases_block : (o : Option Block) → ((b : Block) × (o ≡ Some b)) ⊎ (o ≡ None)
cases_block (Some b) = inl (b, refl)
cases_block None = inr refl

-- rows are in order, each id stands once, ids of files were issued and don't await, and awaiting ids were issued
pub record HasIds (n : Namespace) : Type 0 where
  pub in_order : is_sorted path_cmp n.rows ≡ true
  pub once : (id : ℕ) → times id (all_blocks n) ≤ 1
  pub issued : (b : Block) → Includes (all_blocks n) b → (b.id ≤ n.issued.last_block) × (has_id n.issued.awaiting b.id ≡ false)
  pub awaiting : (id : ℕ) → has_id n.issued.awaiting id ≡ true → id ≤ n.issued.last_block

pub ids_of_well : (n : Namespace) → HasWellFormedBlocks n → HasIds n
ids_of_well n w = record {
  in_order = w.in_order;
  once = w.once;
  issued = λ b here. let is = w.issued b here in (is.to_last, is.not_awaiting);
  awaiting = λ id waits. (w.awaiting_from id waits).1;
}

pub goes_on : (n new : Namespace) → HasIds n → GoesOn n new → (id stamp : ℕ) → due_in n id stamp ≡ true → due_in new id stamp ≡ true
goes_on n new w g id stamp due =
    let awaits : (b : Block) → b.id ≡ id → has_id n.issued.awaiting id ≡ false → has_id n.issued.awaiting b.id ≡ true → ⊥ =
    λ b is free waits. both_ways _ free (subst (λ k. has_id n.issued.awaiting k ≡ true) is waits) in
    elim (cases_block (block_at n id)) [
      | inl was ↦
          let at = found_in (all_blocks n) id was.0 was.1 in
          let issued = w.issued was.0 at.0 in
          let low = due_named n id stamp was.0 was.1 due in
          let free : has_id n.issued.awaiting id ≡ false = subst (λ k. has_id n.issued.awaiting k ≡ false) at.1 issued.1 in
          let in_last : id ≤ n.issued.last_block = subst (λ k. k ≤ n.issued.last_block) at.1 issued.0 in
          elim (cases_block (block_at new id)) [
            | inl now ↦
                let there = found_in (all_blocks new) id now.0 now.1 in
                elim (g.each now.0 there.0) [
                  | inl from ↦
                      let same : from.0 ≡ was.0 = once_same (all_blocks n) from.0 was.0 (w.once was.0.id) from.1 at.0 (from.2 ∙ there.1 ∙ sym at.1) in
                      let e : from.0.stamp ≡ was.0.stamp = ap (λ b. b.stamp) same in
                      named new id stamp now.0 now.1 (omega (arith, low, e, from.3))
                  | inr waits ↦ absurd (awaits now.0 there.1 free waits)
                ]
            | inr gone ↦ retired new id stamp gone (g.awaiting id in_last free) (omega (arith, in_last, g.last))
          ]
      | inr none ↦
          let r = due_retired n id stamp none due in
          elim (cases_block (block_at new id)) [
            | inl now ↦
                let there = found_in (all_blocks new) id now.0 now.1 in
                elim (g.each now.0 there.0) [
                  | inl from ↦ absurd (none_found (all_blocks n) id from.0 none from.1 (from.2 ∙ there.1))
                  | inr waits ↦ absurd (awaits now.0 there.1 r.0 waits)
                ]
            | inr still ↦ retired new id stamp still (g.awaiting id r.1 r.0) (omega (arith, r.1, g.last))
          ]
    ]

-- ---- what an edit does to the blocks

form_has : (form : Form) (b : Block) → Includes (file_or_none (Some form)).blocks b → Includes (blocks_of form) b
form_has Dir b here = here
form_has (File file) b here = here

pub file_has : (p : Path) (rows : List (Path × Form)) (b : Block) → Includes (file_or_none (find_entry path_cmp p rows)).blocks b → Includes (blocks_in rows) b
file_has p [] b here = absurd here
file_has p (row ∷ rows) b here =
    elim (eq_by_cmp path_cmp p row.0) as (λ t. Includes (file_or_none (cond t (Some row.1) (find_entry path_cmp p rows))).blocks b
    → Includes (blocks_in (row ∷ rows)) b) [
      | true ↦ λ h. has_left (blocks_of row.1) (blocks_in rows) b (form_has row.1 b h)
      | false ↦ λ h. has_right (blocks_of row.1) (blocks_in rows) b (file_has p rows b h)
    ] here

-- a block of a new list comes from the one in its place
pub listed : (last : ℕ) (old new : List Block) (b : Block) → keeps_ids old new ≡ true → keeps_stamps last old new ≡ true → Includes new b →
    (a : Block) × Includes old a × (a.id ≡ b.id) × (a.stamp ≤ b.stamp)
listed last old [] b ids stamps here = absurd here
listed last [] (y ∷ new) b ids stamps here = absurd (both_ways _ refl ids)
listed last (a ∷ old) (y ∷ new) b ids stamps (inl same) =
    let i = and_parts _ _ ids in
    let s = and_parts _ _ stamps in
    let s' = and_parts _ _ s.0 in
    (a, inl refl, eqb-true _ _ i.0 ∙ ap (λ z. z.id) same, subst (λ z. a.stamp ≤ z.stamp) same (leb-true _ _ s'.0))
listed last (a ∷ old) (y ∷ new) b ids stamps (inr here) =
    let rest = listed last old new b (and_parts _ _ ids).1 (and_parts _ _ stamps).1 here in
    (rest.0, inr rest.1, rest.2, rest.3)

-- ---- checks that found nothing

abbrev pub AllNone : List (Option EditFault) → Type 0
AllNone [] = Unit {0}
AllNone (check ∷ checks) = (check ≡ None) × AllNone checks

pub all_none : (checks : List (Option EditFault)) → first_fault checks ≡ None → AllNone checks
all_none [] none = tt
all_none (Some fault ∷ checks) none = absurd (cc)
all_none (None ∷ checks) none = (refl, all_none checks none)

pub when_none : (b : Bool) (fault : EditFault) → fault_if b fault ≡ None → b ≡ false
when_none true fault none = absurd (cc)
when_none false fault none = refl

-- ---- edit by edit

stays : (n : Namespace) (b : Block) → Includes (all_blocks n) b → Comes n b
stays n b here = inl (b, here, refl, omega arith)

same_ids : (n : Namespace) (id : ℕ) → id ≤ n.issued.last_block → has_id n.issued.awaiting id ≡ false → has_id n.issued.awaiting id ≡ false
same_ids n id low free = free

row_goes_on : (n : Namespace) (p : Path) (form : Form) → ((b : Block) → Includes (blocks_of form) b → Comes n b) → GoesOn n (with_row n p form)
row_goes_on n p form comes = record {
  each = λ b here. elim (put_from blocks_of p form n.rows b here) [ inl a ↦ comes b a | inr c ↦ stays n b c ];
  last = omega arith;
  awaiting = same_ids n;
}

pub filter_none : (p q : ℕ → Bool) (xs : List ℕ) → list_any p xs ≡ false → list_any p (filter q xs) ≡ false
filter_none p q [] none = refl
filter_none p q (x ∷ xs) none =
    elim (q x) as (λ t. list_any p (cond t (x ∷ filter q xs) (filter q xs)) ≡ false) [
      | true ↦ or_from _ _ (or_parts _ _ none).0 (filter_none p q xs (or_parts _ _ none).1)
      | false ↦ filter_none p q xs (or_parts _ _ none).1
    ]

pub any_push : (p : ℕ → Bool) (xs : List ℕ) (x : ℕ) → list_any p xs ≡ false → p x ≡ false → list_any p (xs ++ x ∷ []) ≡ false
any_push p [] x none last = or_from _ _ last refl
any_push p (y ∷ xs) x none last = or_from _ _ (or_parts _ _ none).0 (any_push p xs x (or_parts _ _ none).1 last)

list_goes_on : (n : Namespace) (p : Path) (bs : List Block) (closed : Bool) → first_fault (list_checks n p bs) ≡ None → GoesOn n (with_blocks n p bs closed)
list_goes_on n p bs closed applies =
    let found = all_none (list_checks n p bs) applies in
    let ids = not-false _ (when_none _ _ found.1.1.1.1.1.0) in
    let stamps = not-false _ (when_none _ _ found.1.1.1.1.1.1.0) in
    row_goes_on n p (File (record { replication = (file_at n p).replication; closed = closed; blocks = bs })) (λ b here.
    let from = listed n.issued.last_stamp (file_at n p).blocks bs b ids stamps here in
    inl (from.0, file_has p n.rows from.0 from.1, from.2, from.3))

pub edit_goes_on : (n : Namespace) (edit : Edit) → refusal n edit ≡ None → GoesOn n (effect n edit)
edit_goes_on n (StartSegment profile) applies = record { each = stays n; last = omega arith; awaiting = same_ids n }
edit_goes_on n EndSegment applies = record { each = stays n; last = omega arith; awaiting = same_ids n }
edit_goes_on n (Mkdir p) applies = row_goes_on n p Dir (λ b none. absurd none)
edit_goes_on n (Add p r) applies = row_goes_on n p (File (record { replication = r; closed = false; blocks = [] })) (λ b none. absurd none)
edit_goes_on n (AddBlock p i stamp) applies =
    let found = all_none (checks n (AddBlock p i stamp)) applies in
    let waits : has_id n.issued.awaiting i ≡ true = not-false _ (when_none _ _ found.1.1.1.1.1.0) in
    let new : Block = record { id = i; stamp = stamp; len = 0 } in
    let bs = (file_at n p).blocks ++ new ∷ [] in
    let put_in = row_goes_on n p (File (record { replication = (file_at n p).replication; closed = false; blocks = bs })) (λ b here.
    elim (has_either (file_at n p).blocks (new ∷ []) b here) [
      | inl old ↦ stays n b (file_has p n.rows b old)
      | inr (inl same) ↦ inr (subst (λ y. has_id n.issued.awaiting y.id ≡ true) same waits)
      | inr (inr none) ↦ absurd none
    ]) in
    record { each = put_in.each; last = omega arith; awaiting = λ id low free. filter_none (λ k. k == id) (λ k. not (k == i)) n.issued.awaiting free }
edit_goes_on n (UpdateBlocks p bs) applies = list_goes_on n p bs false applies
edit_goes_on n (Close p bs) applies = list_goes_on n p bs true applies
edit_goes_on n (Append p) applies =
    row_goes_on n p (File (record {
      replication =
          (file_at n p).replication;
      closed = false;
      blocks = (file_at n p).blocks;
    })) (λ b here. stays n b (file_has p n.rows b here))
edit_goes_on n (Rename s d) applies = record {
  each = λ b here. stays n b (moved_from blocks_of (moved s d) n.rows b (order_from blocks_of (map (λ row. (moved s d row.0, row.1)) n.rows) b here));
  last = omega arith;
  awaiting = same_ids n;
}
edit_goes_on n (Delete p) applies =
    record { each = λ b here. stays n b (filter_from blocks_of (λ row. not (begins_with p row.0)) n.rows b here); last = omega arith; awaiting = same_ids n }
edit_goes_on n (SetReplication p r) applies =
    row_goes_on n p (File (record {
      replication =
          r;
      closed = (file_at n p).closed;
      blocks = (file_at n p).blocks;
    })) (λ b here. stays n b (file_has p n.rows b here))
edit_goes_on n (AllocateBlockId i) applies =
    let found = all_none (checks n (AllocateBlockId i)) applies in
    let above : n.issued.last_block < i = leb-false _ _ (when_none _ _ found.0) in
    record { each = stays n; last = omega arith; awaiting = λ id low free. any_push (λ k. k == id) n.issued.awaiting i free (ne_eqb _ _ (λ same. omega arith)) }
edit_goes_on n (SetGenstamp stamp) applies = record { each = stays n; last = omega arith; awaiting = same_ids n }

pub due_stays : (n : Namespace) (edit : Edit) → HasWellFormedBlocks n → refusal n edit ≡ None → (id stamp : ℕ) → due_in n id stamp ≡ true →
    due_in (effect n edit) id stamp ≡ true
due_stays n edit w applies = goes_on n (effect n edit) (ids_of_well n w) (edit_goes_on n edit applies)

-- an id that is not awaiting and that no file holds stays so
pub stays_gone : (n new : Namespace) → GoesOn n new → (id : ℕ) → block_at n id ≡ None → has_id n.issued.awaiting id ≡ false → block_at new id ≡ None
stays_gone n new g id none free =
    elim (cases_block (block_at new id)) [
      | inl now ↦
          let there = found_in (all_blocks new) id now.0 now.1 in
          elim (g.each now.0 there.0) [
            | inl from ↦ absurd (none_found (all_blocks n) id from.0 none from.1 (from.2 ∙ there.1))
            | inr waits ↦ absurd (both_ways _ (subst (λ k. has_id n.issued.awaiting k ≡ false) (sym there.1) free) waits)
          ]
      | inr gone ↦ gone
    ]

-- what is due and in no file is not awaiting
pub due_not_awaiting : (n : Namespace) (id stamp : ℕ) → block_at n id ≡ None → due_in n id stamp ≡ true → has_id n.issued.awaiting id ≡ false
due_not_awaiting n id stamp none due = (due_retired n id stamp none due).0

-- what is due with a stamp is due with none
pub due_with_none : (n : Namespace) (id stamp : ℕ) → due_in n id stamp ≡ true → due_in n id 0 ≡ true
due_with_none n id stamp due = elim (cases_block (block_at n id)) [
  | inl was ↦ named n id 0 was.0 was.1 (omega arith)
  | inr none ↦ let r = due_retired n id stamp none due in retired n id 0 none r.0 r.1
]
