-- An item about an id that the log has not issued yet is not due.
use Rattle.std.proofs.Common.{◌≡◌, ℕ, ◌<◌, Bool, true, false, cond, List, [], ◌∷◌, Some, None, refl, sym, ap, ◌∙◌, inl, inr, arith}
use Rattle.std.specs.Prelude.{find, not, nat_lt, ◌==◌}
use Rattle.std.specs.List.{list_any}
use Rattle.std.proofs.lemmas.Bool.{or_left, false_from_ne_true, eqb-true, ltb-true}
use Rattle.nn_types.specs.declared.block.Block.{Block}
use Rattle.nn_types.specs.declared.report.Message.{Message}
use Rattle.nn_model.specs.Namespace.{Namespace, all_blocks}
use Rattle.nn_model.specs.Status.{block_at}
use Rattle.nn_model.specs.WellFormed.{Includes, HasWellFormedBlocks}
use Rattle.nn_model.proofs.Dues.{cases_block, due_retired}
use Rattle.nn_replicas.proofs.Entries.{same_some}
use Rattle.nn_postponed.specs.Release.{same_source, must_wait}
use Rattle.nn_shadow.specs.Calls.{is_due_in}

found_there : (id : ℕ) (bs : List Block) (b : Block) → find (λ x. x.id == id) bs ≡ Some b → Includes bs b × ((b.id == id) ≡ true)
found_there id [] b e = absurd (nothing e)
  where
    nothing : None ≡ Some b → ⊥
    nothing is = cc
found_there id (x ∷ bs) b e = cases (found_there id bs b) (x.id == id) refl e
  where
    cases : (find (λ y. y.id == id) bs ≡ Some b → Includes bs b × ((b.id == id) ≡ true)) → (same : Bool) → (x.id == id) ≡ same →
        cond same (Some x) (find (λ y. y.id == id) bs) ≡ Some b → Includes (x ∷ bs) b × ((b.id == id) ≡ true)
    cases next true h g = let is : x ≡ b = same_some x b g in (inl is, ap (λ (y : Block). y.id == id) (sym is) ∙ h)
    cases next false h g = let r = next g in (inr r.0, r.1)

ahead_late : (n : Namespace) (m : Message) → HasWellFormedBlocks n → n.issued.last_block < m.block → is_due_in n m ≡ false
ahead_late n m well ahead = false_from_ne_true _ (λ due. elim (cases_block (block_at n m.block)) [
  | inl there ↦
      let f = found_there m.block (all_blocks n) there.0 there.1 in
      let low = (well.issued there.0 f.0).to_last in
      let same = eqb-true there.0.id m.block f.1 in
      absurd (omega (arith, low, same, ahead))
  | inr none ↦
      let low = (due_retired n m.block m.stamp none due).1 in
      absurd (omega (arith, low, ahead))
])

pub ahead_waits : (n : Namespace) (held : List Message) (m : Message) → HasWellFormedBlocks n → nat_lt n.issued.last_block m.block ≡ true → true ≡ must_wait (is_due_in n) held m
ahead_waits n held m well ahead =
    sym (or_left (not (is_due_in n m)) (list_any (same_source m) held) (ap not (ahead_late n m well (ltb-true n.issued.last_block m.block ahead))))
