-- A message about a block that an edit didn't touch is due after it just where it was due before.
use Rattle.std.proofs.Common.{◌≡◌, ℕ, ◌+◌, ◌-◌, ◌<◌, Bool, true, false, cond, not, ◌||◌, List, [], ◌∷◌, ◌++◌, filter, Option, Some, None, refl, sym, ap}
use Rattle.std.proofs.Common.{subst, ◌∙◌, inl, inr, arith}
use Rattle.std.specs.Prelude.{◌==◌, nat_le, nat_lt, find, if◌then◌else◌}
use Rattle.std.proofs.lemmas.Bool.{both_ways, cases_Bool, or_parts, and_from, eqb-true, eq-eqb, ne_eqb, leb-false, le-leb, lt-leb, lt-ltb, cond-false}
use Rattle.std.proofs.lemmas.Bool.{cases_eq, cases_lt}
use Rattle.nn_types.specs.declared.block.Block.{Block}
use Rattle.nn_types.specs.declared.status.Status.{Status}
use Rattle.nn_types.specs.declared.status.Status.TheVariants.{Unnamed, Awaiting, Retired}
use Rattle.nn_types.specs.Due.{is_due}
use Rattle.nn_types.specs.declared.edit.Edit.{Edit}
use Rattle.nn_types.specs.declared.edit.Edit.TheVariants.{StartSegment, EndSegment, Mkdir, Add, AddBlock, UpdateBlocks, Close, Append, Rename, Delete, SetReplication}
use Rattle.nn_types.specs.declared.edit.Edit.TheVariants.{AllocateBlockId, SetGenstamp}
use Rattle.nn_model.specs.Namespace.{Namespace}
use Rattle.nn_model.specs.Apply.{refusal, checks, effect, has_id}
use Rattle.nn_model.specs.Status.{block_at, status_unheld, status_from}
use Rattle.nn_model.specs.Touched.{Touched, ids_of, touched, changed_blocks, changed_ids, or_before, block_after, is_within, is_touched}
use Rattle.nn_model.specs.Laws.{OnlyTouchedBecomeDue}
use Rattle.nn_model.proofs.Dues.{all_none, when_none}
use Rattle.nn_model.proofs.TouchedEdits.{touched_tells}

-- what isn't changed isn't found among what is
unchanged : (bs : List Block) (id : ℕ) → has_id (ids_of bs) id ≡ false → find (λ b. b.id == id) bs ≡ None
unchanged [] id none = refl
unchanged (b ∷ bs) id none =
    let parts = or_parts (b.id == id) (has_id (ids_of bs) id) none in
    cond-false (b.id == id) (Some b) (find (λ x. x.id == id) bs) parts.0 ∙ unchanged bs id parts.1

same_block : (t : Touched) (before : Option Block) (id : ℕ) → has_id (changed_ids t) id ≡ false → has_id t.retired id ≡ false →
    block_after t before id ≡ before
same_block t before id changed retired =
    cond-false (has_id t.retired id) None (or_before (find (λ b. b.id == id) (changed_blocks t)) before) retired
    ∙ ap (λ o. or_before o before) (unchanged (changed_blocks t) id changed)

-- what is due of an id that no file holds
abbrev due_unheld : Bool → Bool → ℕ → Bool
due_unheld waits issued stamp = is_due (cond waits Awaiting (cond issued Retired Unnamed)) stamp

still_waits : (i id : ℕ) (ids : List ℕ) → (i ≡ id → ⊥) → has_id (filter (λ k. not (k == i)) ids) id ≡ has_id ids id
still_waits i id [] other = refl
still_waits i id (k ∷ ids) other =
    elim (cases_Bool (k == i)) [
      | inl gone ↦ ap (λ t. has_id (cond (not t) (k ∷ filter (λ j. not (j == i)) ids) (filter (λ j. not (j == i)) ids)) id) gone
          ∙ still_waits i id ids other ∙ sym (ap (λ t. t || has_id ids id) (ne_eqb k id (λ e. other (sym (eqb-true _ _ gone) ∙ e))))
      | inr kept ↦ ap (λ t. has_id (cond (not t) (k ∷ filter (λ j. not (j == i)) ids) (filter (λ j. not (j == i)) ids)) id) kept
          ∙ ap (λ t. (k == id) || t) (still_waits i id ids other)
    ]

push_other : (ids : List ℕ) (i id : ℕ) → (i ≡ id → ⊥) → has_id (ids ++ i ∷ []) id ≡ has_id ids id
push_other [] i id other = ap (λ t. t || false) (ne_eqb i id other)
push_other (k ∷ ids) i id other = ap (λ t. (k == id) || t) (push_other ids i id other)

push_last : (ids : List ℕ) (i : ℕ) → has_id (ids ++ i ∷ []) i ≡ true
push_last [] i = ap (λ t. t || false) (eq-eqb i i refl)
push_last (k ∷ ids) i = ap (λ t. (k == i) || t) (push_last ids i) ∙ or_true (k == i)
  where
    or_true : (b : Bool) → (b || true) ≡ true
    or_true true = refl
    or_true false = refl

still_to_come : (waits : Bool) (stamp : ℕ) → due_unheld waits false stamp ≡ false
still_to_come true stamp = refl
still_to_come false stamp = refl

skipped_has : (last i id : ℕ) → last < id → id < i → is_within (if nat_lt (last + 1) i then Some (last + 1, i - 1) else None) id ≡ true
skipped_has last i id low high =
    ap (λ t. is_within (cond t (Some (last + 1, i - 1)) None) id) (lt-ltb (last + 1) i (omega arith))
    ∙ and_from (nat_le (last + 1) id) (nat_le id (i - 1)) (le-leb (last + 1) id (omega arith)) (le-leb id (i - 1) (omega arith))

-- an allocation makes none due but the ids that it passes over
allocated : (last i id stamp : ℕ) (ids : List ℕ) → last < i → is_within (if nat_lt (last + 1) i then Some (last + 1, i - 1) else None) id ≡ false →
    due_unheld (has_id (ids ++ i ∷ []) id) (nat_le id i) stamp ≡ due_unheld (has_id ids id) (nat_le id last) stamp
allocated last i id stamp ids above outside =
    elim (cases_eq i id) [
      | inl this ↦
          let waits : has_id (ids ++ i ∷ []) id ≡ true = subst (λ k. has_id (ids ++ i ∷ []) k ≡ true) this (push_last ids i) in
          ap (λ t. due_unheld t (nat_le id i) stamp) waits
          ∙ sym (ap (λ t. due_unheld (has_id ids id) t stamp) (lt-leb id last (omega arith)) ∙ still_to_come (has_id ids id) stamp)
      | inr other ↦
          ap (λ t. due_unheld t (nat_le id i) stamp) (push_other ids i id other)
          ∙ ap (λ t. due_unheld (has_id ids id) t stamp) (elim (cases_lt last id) [
            | inl above_last ↦ elim (cases_lt id i) [
              | inl passed ↦ absurd (both_ways _ outside (skipped_has last i id above_last passed))
              | inr not_passed ↦ lt-leb id i (omega (arith, other)) ∙ sym (lt-leb id last above_last)
            ]
            | inr low ↦ le-leb id i (omega arith) ∙ sym (le-leb id last low)
          ])
    ]

-- where the block before and after is one, its status decides, or what is said of the id
from_blocks : (before after : Option Block) (unheld new_unheld : Status) (stamp : ℕ) → after ≡ before →
    is_due new_unheld stamp ≡ is_due unheld stamp → is_due (status_from after new_unheld) stamp ≡ is_due (status_from before unheld) stamp
from_blocks None after unheld new_unheld stamp same due = ap (λ o. is_due (status_from o new_unheld) stamp) same ∙ due
from_blocks (Some b) after unheld new_unheld stamp same due = ap (λ o. is_due (status_from o new_unheld) stamp) same

unheld_stays : (n : Namespace) (edit : Edit) → refusal n edit ≡ None → (id stamp : ℕ) → is_touched (touched n edit) id ≡ false →
    is_due (status_unheld (effect n edit) id) stamp ≡ is_due (status_unheld n id) stamp
unheld_stays n (StartSegment profile) applies id stamp out = refl
unheld_stays n EndSegment applies id stamp out = refl
unheld_stays n (Mkdir p) applies id stamp out = refl
unheld_stays n (Add p r) applies id stamp out = refl
unheld_stays n (AddBlock p i s) applies id stamp out =
    let not_new = (or_parts (i == id) false (or_parts _ false (or_parts _ false out).0).0).0 in
    ap (λ t. due_unheld t (nat_le id n.issued.last_block) stamp) (still_waits i id n.issued.awaiting (λ same. both_ways _ not_new (eq-eqb i id same)))
unheld_stays n (UpdateBlocks p bs) applies id stamp out = refl
unheld_stays n (Close p bs) applies id stamp out = refl
unheld_stays n (Append p) applies id stamp out = refl
unheld_stays n (Rename s d) applies id stamp out = refl
unheld_stays n (Delete p) applies id stamp out = refl
unheld_stays n (SetReplication p r) applies id stamp out = refl
unheld_stays n (AllocateBlockId i) applies id stamp out =
    let above : n.issued.last_block < i = leb-false _ _ (when_none _ _ (all_none (checks n (AllocateBlockId i)) applies).0) in
    allocated n.issued.last_block i id stamp n.issued.awaiting above out
unheld_stays n (SetGenstamp s) applies id stamp out = refl

pub only_touched_become_due : OnlyTouchedBecomeDue
only_touched_become_due n edit lawful applies w id stamp out =
    let parts = or_parts (has_id (changed_ids (touched n edit)) id || has_id (touched n edit).retired id) (is_within (touched n edit).skipped id) out in
    let held = or_parts (has_id (changed_ids (touched n edit)) id) (has_id (touched n edit).retired id) parts.0 in
    from_blocks (block_at n id) (block_at (effect n edit) id) (status_unheld n id) (status_unheld (effect n edit) id) stamp
    (touched_tells n edit lawful applies w id ∙ same_block (touched n edit) (block_at n id) id held.0 held.1)
    (unheld_stays n edit applies id stamp out)
