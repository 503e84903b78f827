-- The replica table after a lawful history is the picture: of all messages after a whole one, of those that are not held before the flush.
use Rattle.std.proofs.Common.{◌≡◌, ℕ, Bool, true, false, cond, not, ◌&&◌, List, [], ◌∷◌, None, refl, sym, ap, subst, ◌∙◌, inl, inr}
use Rattle.std.specs.Prelude.{◌==◌, filter, is_some}
use Rattle.std.specs.List.{list_any, last_or}
use Rattle.std.proofs.lemmas.Bool.{both_ways, cases_Bool, false_from_ne_true, not-true, not_from_false}
use Rattle.nn_types.specs.declared.report.Message.{Message}
use Rattle.nn_types.specs.declared.event.Cause.TheVariants.{Due, Flush}
use Rattle.nn_types.specs.declared.tx.Tx.{Tx}
use Rattle.nn_model.specs.Namespace.{Namespace}
use Rattle.nn_model.specs.WellFormed.{Includes}
use Rattle.nn_model.specs.Log.{namespace_after, IsLog}
use Rattle.nn_model.specs.Lanes.{Lanes, AreOrdered, IsSent}
use Rattle.nn_model.specs.Held.{is_held, without_held}
use Rattle.nn_model.specs.History.{History, is_flush}
use Rattle.nn_model.specs.Lawful.{IsLawful, IsWhole, processes_from}
use Rattle.nn_model.specs.Replay.{is_named, starting_at, replay}
use Rattle.nn_model.specs.Picture.{last_said, ShowsPicture}
use Rattle.nn_model.proofs.Events.{lawful_tells, reached_by, at_end}
use Rattle.nn_model.proofs.Sent.{dn_of, sent_from_lane}
use Rattle.nn_model.proofs.Places.{DueAlong}
use Rattle.nn_model.proofs.Unpassed.{not_passed}
use Rattle.nn_model.proofs.Shown.{last_done, has, ShowsAtEnd, walk}
use Rattle.nn_model.proofs.LastDone.{walk_last, agree}

-- two filters are one
filter_twice : (p q : Message → Bool) (ms : List Message) → filter p (filter q ms) ≡ filter (λ m. q m && p m) ms
filter_twice p q [] = refl
filter_twice p q (x ∷ ms) =
    elim (q x) as (λ t. filter p (cond t (x ∷ filter q ms) (filter q ms)) ≡ cond (t && p x) (x ∷ filter (λ m. q m && p m) ms) (filter (λ m. q m && p m) ms)) [
      | true ↦ ap (λ l. cond (p x) (x ∷ l) l) (filter_twice p q ms)
      | false ↦ filter_twice p q ms
    ]

nothing_said : (b : Bool) → (None ≡ cond b (has None) None) × (false ≡ cond b false (is_some (has None)))
nothing_said true = (refl, refl)
nothing_said false = (refl, refl)

module _ (start : Namespace) (base : ℕ) (txs : List Tx) (lanes : Lanes) (h : History) (along : DueAlong start txs) (log : IsLog start base txs)
    (ordered : AreOrdered lanes) (lawful : IsLawful start txs lanes h) where
  -- what stands is what the last processed message says
  shown : (dn id : ℕ) → ShowsAtEnd start base txs lanes h along log lawful.applied_in_order dn id (replay start txs lanes h) (last_done lanes dn id None h)
  shown dn id = walk start base txs lanes h along log lawful.applied_in_order dn id [] h (starting_at start) None refl
      (lawful_tells start txs lanes h lawful) lawful.flush_last refl
      (record { replica = (nothing_said (is_named start id)).0; order = (nothing_said (is_named start id)).1; known = λ unflushed m is. absurd (cc) })

  -- so it is the picture of the messages that count, where the last of them is the last that was processed
  picture : (counted : Lanes) → ((dn id : ℕ) → last_said counted dn id ≡ last_done lanes dn id None h) →
      ShowsPicture (namespace_after start txs) counted (replay start txs lanes h)
  picture counted same =
      let now = at_end start txs h lawful.applied_in_order in
      record {
        namespace = (shown 0 0).0 ∙ now;
        replicas = λ dn id. let t = shown dn id in t.1.replica ∙ (λ j. cond (is_named ((t.0 ∙ now) j) id) (has (sym (same dn id) j)) None);
        orders = λ dn id. let t = shown dn id in t.1.order ∙ (λ j. cond (is_named ((t.0 ∙ now) j) id) false (is_some (has (sym (same dn id) j))));
      }

  reached_in_lane : (dn id : ℕ) (c : Message) → Includes (lanes dn) c → c.block ≡ id → list_any (processes_from c.dn c.block c.number) h ≡ true →
      list_any (processes_from dn id c.number) h ≡ true
  reached_in_lane dn id c here about reached =
      let own : c.dn ≡ dn = dn_of dn (lanes dn) c (ordered dn) here in
      (λ i. list_any (processes_from (sym own i) (sym about i) c.number) h) ∙ reached

  -- each message was reached by a whole history
  all_reached : IsWhole start txs lanes h → (m : Message) → IsSent lanes m → list_any (processes_from m.dn m.block m.number) h ≡ true
  all_reached whole m sent = elim (cases_Bool (is_held (namespace_after start txs) (lanes m.dn) m)) [
    | inl waits ↦ reached_by Flush h m (whole m sent waits)
    | inr free ↦ reached_by Due h m (lawful.none_forgotten m sent free)
  ]

  pub final_picture : IsWhole start txs lanes h → ShowsPicture (namespace_after start txs) lanes (replay start txs lanes h)
  final_picture whole = picture lanes (λ dn id. agree lanes ordered h dn id (λ m. true)
      (λ c here counts about. reached_in_lane dn id c here about (all_reached whole c (sent_from_lane lanes dn c ordered here)))
      (λ a done. refl) (last_done lanes dn id None h) _ (walk_last lanes dn id start txs [] h None
      (lawful_tells start txs lanes h lawful) lawful.in_sending_order refl) refl)

  pub picture_of_free : list_any is_flush h ≡ false → ShowsPicture (namespace_after start txs) (without_held (namespace_after start txs) lanes)
      (replay start txs lanes h)
  picture_of_free no_flush =
      let n = namespace_after start txs in
      picture (without_held n lanes) (λ dn id.
      ap (last_or None) (filter_twice (λ m. m.block == id) (λ m. not (is_held n (lanes dn) m)) (lanes dn))
      ∙ agree lanes ordered h dn id (λ m. not (is_held n (lanes dn) m))
      (λ c here free about.
      let own : c.dn ≡ dn = dn_of dn (lanes dn) c (ordered dn) here in
      reached_in_lane dn id c here about (reached_by Due h c (lawful.none_forgotten c (sent_from_lane lanes dn c ordered here)
      (subst (λ d. is_held n (lanes d) c ≡ false) (sym own) (not-true _ free)))))
      (λ a done. not_from_false _ (subst (λ d. is_held n (lanes d) a ≡ false) done.dn_is (false_from_ne_true _ (λ waits.
      both_ways _ (not_passed start txs lanes along h (lawful_tells start txs lanes h lawful) no_flush a waits)
      ((λ i. list_any (processes_from (done.dn_is i) (done.block_is i) a.number) h) ∙ done.reached)))))
      (last_done lanes dn id None h) _ (walk_last lanes dn id start txs [] h None (lawful_tells start txs lanes h lawful) lawful.in_sending_order refl) refl)
