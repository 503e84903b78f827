-- Nothing of the same DataNode and block goes past a message that is held.
use Rattle.std.proofs.Common.{◌≡◌, ℕ, ◌+◌, ◌≤◌, true, false, List, [], ◌∷◌, ◌++◌, length, take, refl, sym, subst, ◌∙◌, inl, inr, arith}
use Rattle.std.specs.Prelude.{◌&&◌, ◌==◌, nat_le}
use Rattle.std.specs.List.{list_any}
use Rattle.std.proofs.lemmas.List.{take_all}
use Rattle.std.proofs.lemmas.Bool.{or_parts, or_from, both_ways, and_parts, eqb-true, leb-true, false_from_ne_true, cases_Bool}
use Rattle.nn_types.specs.declared.report.Message.{Message}
use Rattle.nn_types.specs.declared.event.Event.{Event}
use Rattle.nn_types.specs.declared.event.Event.TheVariants.{Applied, Processed}
use Rattle.nn_types.specs.declared.event.Cause.TheVariants.{Due, Flush}
use Rattle.nn_types.specs.declared.tx.Tx.{Tx}
use Rattle.nn_model.specs.Namespace.{Namespace}
use Rattle.nn_model.specs.Status.{due_in}
use Rattle.nn_model.specs.WellFormed.{Includes}
use Rattle.nn_model.specs.Log.{namespace_after}
use Rattle.nn_model.specs.Lanes.{Lanes}
use Rattle.nn_model.specs.Held.{keeps_back, IsHeld}
use Rattle.nn_model.specs.History.{History, EachAfter, applied_txids, namespace_at, is_flush}
use Rattle.nn_model.specs.Lawful.{processes_from}
use Rattle.nn_model.proofs.Events.{any_false_at, any_found, Tells}
use Rattle.nn_model.proofs.Sent.{keeps_from, kept_by}
use Rattle.nn_model.proofs.Places.{DueAlong}

module _ (start : Namespace) (txs : List Tx) (lanes : Lanes) (along : DueAlong start txs) (m : Message)
    (waits : IsHeld (namespace_after start txs) lanes m) where
  -- what is due within the log is due at its end
  at_last : (k id stamp : ℕ) → due_in (namespace_after start (take k txs)) id stamp ≡ true → due_in (namespace_after start txs) id stamp ≡ true
  at_last k id stamp due = subst (λ l. due_in (namespace_after start l) id stamp ≡ true) (take_all (k + length txs) txs (omega arith))
      (along k (k + length txs) id stamp (omega arith) due)

  -- an event that names a message which nothing held at its moment does not reach one that is held in the end
  short : (before : History) (event : Event) → is_flush event ≡ false → Tells start txs lanes before event → processes_from m.dn m.block m.number event ≡ false
  short before (Applied txid) no_flush told = refl
  short before (Processed dn number block Flush) no_flush told = absurd (both_ways _ no_flush refl)
  short before (Processed dn number block Due) no_flush told = false_from_ne_true _ (λ reached.
      let outer = and_parts ((dn == m.dn) && (block == m.block)) (nat_le m.number number) reached in
      let inner = and_parts (dn == m.dn) (block == m.block) outer.0 in
      let dn_is : dn ≡ m.dn = eqb-true _ _ inner.0 in
      let block_is : block ≡ m.block = eqb-true _ _ inner.1 in
      let j = any_found (keeps_back (namespace_after start txs) m) (lanes m.dn) waits in
      let kept = kept_by (namespace_after start txs) m j.0 j.2 in
      let there : Includes (lanes told.0.dn) j.0 = subst (λ d. Includes (lanes d) j.0) (sym (told.2 ∙ dn_is)) j.1 in
      let above : m.number ≤ number = leb-true m.number number outer.1 in
      let at_most : j.0.number ≤ told.0.number = omega (arith, kept.1, above, told.3) in
      elim (cases_Bool (due_in (namespace_at start txs before) j.0.block j.0.stamp)) [
        | inl due ↦ both_ways _ kept.2 (at_last (length (applied_txids before)) j.0.block j.0.stamp due)
        | inr late ↦ both_ways _ (any_false_at (keeps_back (namespace_at start txs before) told.0) (lanes told.0.dn) j.0 told.5 there)
            (keeps_from (namespace_at start txs before) told.0 j.0 (kept.0 ∙ sym block_is ∙ sym told.4) at_most late)
      ])

  none_past : (before events : History) → EachAfter (Tells start txs lanes) before events → list_any is_flush events ≡ false →
      list_any (processes_from m.dn m.block m.number) events ≡ false
  none_past before [] told no_flush = refl
  none_past before (event ∷ events) told no_flush =
      or_from _ _ (short before event (or_parts _ _ no_flush).0 told.0) (none_past (before ++ event ∷ []) events told.1 (or_parts _ _ no_flush).1)

-- before the flush, no event reaches a message that is held
pub not_passed : (start : Namespace) (txs : List Tx) (lanes : Lanes) → DueAlong start txs → (h : History) → EachAfter (Tells start txs lanes) [] h →
    list_any is_flush h ≡ false →
    (m : Message) → IsHeld (namespace_after start txs) lanes m → list_any (processes_from m.dn m.block m.number) h ≡ false
not_passed start txs lanes along h told no_flush m waits = none_past start txs lanes along m waits [] h told no_flush
