-- Notes that are not sorted in yet.
use Rattle.std.proofs.Common.{◌≡◌, ℕ, ◌≤◌, true, false, cond, List, [], ◌∷◌, ◌++◌, Option}
use Rattle.std.proofs.Common.{refl, ap, ◌∙◌, arith}
use Rattle.std.specs.Prelude.{◌==◌}
use Rattle.std.specs.Map.{remove_entry}
use Rattle.std.specs.BTreeMap.{insert_entry, is_at}
use Rattle.std.specs.Ordering.{nat_cmp}
use Rattle.std.proofs.lemmas.Bool.{eqb-true, false_from_ne_true}
use Rattle.nn_types.specs.declared.report.Message.{Message}
use Rattle.nn_model.specs.Items.{NodeState, is_deleted, with_item}
use Rattle.nn_shadow.specs.Notes.{number_noted, with_note, with_notes}

note_more : (has told : List (ℕ × ℕ)) (note : ℕ × ℕ) → with_notes has (told ++ note ∷ []) ≡ with_note (with_notes has told) note
note_more has [] note = refl
note_more has (first ∷ told) note = note_more (with_note has first) told note

note_is_item : (has : List (ℕ × ℕ)) (m : Message) → 1 ≤ m.number → with_note has (m.block, number_noted m) ≡ with_item has m
note_is_item has m from_one =
    let removed = remove_entry (is_at (nat_cmp m.block)) has in
    elim (is_deleted m.kind) as (λ d. cond (cond d 0 m.number == 0) removed (insert_entry nat_cmp has m.block (cond d 0 m.number))
    ≡ cond d removed (insert_entry nat_cmp has m.block m.number)) [
      | true ↦ refl
      | false ↦ ap (λ z. cond z removed (insert_entry nat_cmp has m.block m.number)) (false_from_ne_true (m.number == 0) (λ e. none (eqb-true m.number 0 e)))
    ]
  where
    none : m.number ≡ 0 → ⊥
    none e = omega (arith, from_one, e)

pub noted : (has told later : List (ℕ × ℕ)) (begun : Option ℕ) (was : NodeState) (m : Message) → 1 ≤ m.number → later ≡ told ++ (m.block, number_noted m) ∷ [] →
    record { has = with_notes has told; begun = begun } ≡ was →
    ◌≡◌ {A = NodeState} (record { has = with_notes has later; begun = begun }) (record was { has = with_item was.has m })
noted has told later begun was m from_one is same =
    ap {B = NodeState} (λ es. record { has = es; begun = begun }) (ap (with_notes has) is ∙ note_more has told (m.block, number_noted m) ∙ note_is_item (with_notes has told) m from_one)
    ∙ ap {B = NodeState} (λ (h : NodeState). record h { has = with_item h.has m }) same
