-- On whole histories the two readings of the waiting rule say the same.
use Rattle.std.proofs.Common.{◌≡◌, ℕ, Bool, true, false, List, [], ◌∷◌, ◌++◌, length, refl, sym, subst, ◌∙◌, inl, inr, arith, append_assoc}
use Rattle.std.specs.Prelude.{◌&&◌, ◌==◌}
use Rattle.std.specs.List.{list_any}
use Rattle.std.proofs.lemmas.Bool.{or_parts, or_cases, both_ways, and_parts, and_from, eqb-true, eq-eqb, le-leb, cases_Bool, cases_eq, false_from_ne_true}
use Rattle.nn_types.specs.declared.report.Message.{Message}
use Rattle.nn_types.specs.declared.event.Event.{Event}
use Rattle.nn_types.specs.declared.event.Event.TheVariants.{Applied, Processed}
use Rattle.nn_types.specs.declared.event.Cause.{Cause}
use Rattle.nn_types.specs.declared.event.Cause.TheVariants.{Due, Flush}
use Rattle.nn_types.specs.declared.tx.Tx.{Tx}
use Rattle.nn_model.specs.Namespace.{Namespace}
use Rattle.nn_model.specs.Status.{due_in}
use Rattle.nn_model.specs.WellFormed.{Includes}
use Rattle.nn_model.specs.Log.{namespace_after}
use Rattle.nn_model.specs.Lanes.{Lanes, AreOrdered, IsSent}
use Rattle.nn_model.specs.Held.{keeps_back, is_held, IsFree}
use Rattle.nn_model.specs.History.{History, EachAfter, applied_txids, namespace_at, is_flush, processed}
use Rattle.nn_model.specs.Lawful.{NamesItem, NumberRises, NoFlushBefore, WaitedItsTurn, WasDueItself, processes_from}
use Rattle.nn_model.specs.HistoryLaws.{SameWhenWhole, LawfulIsLoose}
use Rattle.nn_model.proofs.Events.{any_none, any_left, any_right, any_either, any_last, any_true_at, at_found, from_found, applied_more, same_moment}
use Rattle.nn_model.proofs.Sent.{dn_of, sent_from_lane, one_sent, kept_by, free_is_due}
use Rattle.nn_model.proofs.Items.{items_in_order}
use Rattle.nn_model.specs.Items.{items}
use Rattle.nn_model.proofs.Places.{DueAlong}
use Rattle.nn_model.proofs.Ids.{due_along}

-- the event processes this message
abbrev is_about : Message → Event → Bool
is_about j (Applied txid) = false
is_about j (Processed d k b cause) = (d == j.dn) && (b == j.block) && (k == j.number)

about_parts : (j : Message) (d k b : ℕ) (cause : Cause) → is_about j (Processed d k b cause) ≡ true → (d ≡ j.dn) × (b ≡ j.block) × (k ≡ j.number)
about_parts j d k b cause hit =
    let outer = and_parts ((d == j.dn) && (b == j.block)) (k == j.number) hit in
    let inner = and_parts (d == j.dn) (b == j.block) outer.0 in
    (eqb-true d j.dn inner.0, eqb-true b j.block inner.1, eqb-true k j.number outer.1)

about_one : (j : Message) (d k b : ℕ) (cause : Cause) → list_any (is_about j) (Processed d k b cause ∷ []) ≡ true → (d ≡ j.dn) × (b ≡ j.block) × (k ≡ j.number)
about_one j d k b cause hit = elim (or_cases (is_about j
    (Processed d k b cause)) false hit) [ inl here ↦ about_parts j d k b cause here | inr none ↦ absurd (both_ways _ refl none) ]

-- what is processed later was not reached before
later : (j : Message) (b rest : History) → EachAfter NumberRises b rest → list_any (is_about j) rest ≡ true → list_any (processes_from j.dn j.block j.number) b ≡ false
later j b [] rises told = absurd (both_ways _ refl told)
later j b (Applied txid ∷ rest) rises told = any_left (processes_from j.dn j.block j.number) b (Applied txid ∷ []) (later j (b ++ Applied txid ∷ []) rest rises.1 told)
later j b (Processed d k c cause ∷ rest) rises told = elim (or_cases (is_about j (Processed d k c cause)) (list_any (is_about j) rest) told) [
  | inl here ↦ let is = about_parts j d k c cause here in (λ i. list_any (processes_from (sym is.0 i) (sym is.1 i) (sym is.2 i)) b) ∙ rises.0
  | inr further ↦ any_left (processes_from j.dn j.block j.number) b (Processed d k c cause ∷ []) (later j (b ++ Processed d k c cause ∷ []) rest rises.1 further)
]

module _ (start : Namespace) (txs : List Tx) (lanes : Lanes) (whole : History) (along : DueAlong start txs) (ordered : AreOrdered lanes)
    (all : (j : Message) → IsSent lanes j → list_any (is_about j) whole ≡ true) where
  -- before the flush, what was processed was due, and is
  abbrev SoFar : History → Type 0
  SoFar before = list_any is_flush before ≡ false → (j : Message) → IsSent lanes j → list_any (is_about j) before ≡ true →
      due_in (namespace_at start txs before) j.block j.stamp ≡ true

  -- so nothing holds what is due by itself: an earlier message that is not due would come later, and break the order
  clear : (before : History) (d k c : ℕ) (rest : History) (m : Message) → before ++ Processed d k c Due ∷ rest ≡ whole → IsSent lanes m → m.dn ≡ d →
      m.number ≡ k → m.block ≡ c →
      due_in (namespace_at start txs before) m.block m.stamp ≡ true → EachAfter NumberRises before (Processed d k c Due ∷ rest) →
      list_any is_flush before ≡ false → SoFar before →
      IsFree (namespace_at start txs before) lanes m
  clear before d k c rest m is sent dn_is number_is block_is due rises unflushed so_far =
      let n = namespace_at start txs before in
      any_none (keeps_back n m) (lanes m.dn) (λ j here. false_from_ne_true _ (λ kept.
      let t = kept_by n m j kept in
      let dn : j.dn ≡ m.dn = dn_of m.dn (lanes m.dn) j (ordered m.dn) here in
      let j_sent : IsSent lanes j = sent_from_lane lanes m.dn j ordered here in
      elim (cases_eq j.number m.number) [
        | inl same ↦ both_ways _ (subst (λ y. due_in n y.block y.stamp ≡ false) (one_sent lanes m j sent j_sent dn same t.0) t.2) due
        | inr apart ↦ elim (any_either (is_about j) before (Processed d k c Due ∷ rest) (subst (λ h. list_any (is_about j) h ≡ true) (sym is) (all j j_sent))) [
          | inl earlier ↦ both_ways _ t.2 (so_far unflushed j j_sent earlier)
          | inr here_or_later ↦ elim (or_cases (is_about j (Processed d k c Due)) (list_any (is_about j) rest) here_or_later) [
            | inl now ↦ apart (sym (about_parts j d k c Due now).2 ∙ sym number_is)
            | inr after ↦ both_ways _ (later j (before ++ Processed d k c Due ∷ []) rest rises.1 after)
                (any_last (processes_from j.dn j.block j.number) before (Processed d k c Due)
                (and_from _ _ (and_from _ _ (eq-eqb _ _ (sym dn_is ∙ sym dn)) (eq-eqb _ _ (sym block_is ∙ sym t.0)))
                (le-leb j.number k (omega (arith, t.1, number_is)))))
          ]
        ]
      ]))

  strong : (before events : History) → before ++ events ≡ whole → EachAfter (NamesItem lanes) before events → EachAfter NumberRises before events →
      EachAfter (WasDueItself start txs lanes) before events → EachAfter NoFlushBefore before events → SoFar before →
      EachAfter (WaitedItsTurn start txs lanes) before events
  strong before [] is names rises due late so_far = tt
  strong before (Applied txid ∷ events) is names rises due late so_far = (
    tt,
    strong (before ++ Applied txid ∷ []) events (append_assoc before (Applied txid ∷ []) events ∙ is) names.1 rises.1 due.1 late.1 (λ unflushed j sent told.
        let was : due_in (namespace_at start txs before) j.block j.stamp ≡ true = so_far (any_left is_flush before (Applied txid ∷ []) unflushed) j sent
        (elim (any_either (is_about j) before (Applied txid ∷ []) told) [ inl a ↦ a | inr b ↦ absurd (both_ways _ refl b) ]) in
        along (length (applied_txids before)) (length (applied_txids (before ++ Applied txid ∷ []))) j.block j.stamp
        (omega (arith, applied_more before txid)) was),
  )
  strong before (Processed d k c Due ∷ events) is names rises due late so_far =
      let m = names.0.0 in
      let n = namespace_at start txs before in
      let m_due : due_in n m.block m.stamp ≡ true = at_found lanes m d k c (λ y. due_in n y.block y.stamp ≡ true) names.0.1 names.0.2 names.0.3 names.0.4 due.0 in (
        from_found lanes m d k c (IsFree n lanes) names.0.1 names.0.2 names.0.3 names.0.4
            (clear before d k c events m is names.0.1 names.0.2 names.0.3 names.0.4 m_due rises late.0 so_far),
        strong (before ++ Processed d k c Due ∷ []) events (append_assoc before (Processed d k c Due ∷ []) events ∙ is) names.1 rises.1 due.1 late.1
            (λ still j sent told.
            subst (λ y. due_in y j.block j.stamp ≡ true) (sym (same_moment start txs before d k c Due))
            (elim (any_either (is_about j) before (Processed d k c Due ∷ []) told) [
              | inl a ↦ so_far late.0 j sent a
              | inr b ↦
                  let is_j = about_one j d k c Due b in
                  subst (λ y. due_in n y.block y.stamp ≡ true) (sym (one_sent lanes m j names.0.1 sent (sym is_j.0 ∙ sym names.0.2)
                  (sym is_j.2 ∙ sym names.0.3) (sym is_j.1 ∙ sym names.0.4))) m_due
            ])),
      )
  strong before (Processed d k c Flush ∷ events) is names rises due late so_far = (
    tt,
    strong (before ++ Processed d k c Flush ∷ []) events (append_assoc before (Processed d k c Flush ∷ []) events ∙ is) names.1 rises.1 due.1 late.1
        (λ unflushed. absurd (both_ways true (or_parts true (list_any is_flush []) (any_right is_flush before (Processed d k c Flush ∷ []) unflushed)).0 refl)),
  )

loose : (start : Namespace) (txs : List Tx) (lanes : Lanes) (before events : History) → EachAfter (NamesItem lanes) before events →
    EachAfter (WaitedItsTurn start txs lanes) before events → EachAfter (WasDueItself start txs lanes) before events
loose start txs lanes before [] names waited = tt
loose start txs lanes before (Applied txid ∷ events) names waited = (tt, loose start txs lanes (before ++ Applied txid ∷ []) events names.1 waited.1)
loose start txs lanes before (Processed d k c Due ∷ events) names waited =
    let m = names.0.0 in
    let n = namespace_at start txs before in
    let free : IsFree n lanes m = at_found lanes m d k c (IsFree n lanes) names.0.1 names.0.2 names.0.3 names.0.4 waited.0 in (
      from_found lanes m d k c (λ y. due_in n y.block y.stamp ≡ true) names.0.1 names.0.2 names.0.3 names.0.4 (free_is_due n lanes m names.0.1 free),
      loose start txs lanes (before ++ Processed d k c Due ∷ []) events names.1 waited.1,
    )
loose start txs lanes before (Processed d k c Flush ∷ events) names waited =
    (tt, loose start txs lanes (before ++ Processed d k c Flush ∷ []) events names.1 waited.1)

told_by : (j : Message) (cause : Cause) (h : History) → Includes h (processed cause j) → list_any (is_about j) h ≡ true
told_by j cause h here =
    any_true_at (is_about j) h (processed cause j) (and_from _ _ (and_from _ _ (eq-eqb j.dn j.dn refl) (eq-eqb j.block j.block refl))
    (eq-eqb j.number j.number refl)) here

pub lawful_is_loose : LawfulIsLoose
lawful_is_loose start txs lanes events l = record {
  applied_in_order = l.applied_in_order;
  sent = l.sent;
  in_sending_order = l.in_sending_order;
  waited = loose start txs lanes [] events l.sent l.waited;
  flush_last = l.flush_last;
  flush_held = l.flush_held;
  none_forgotten = l.none_forgotten;
}

pub same_when_whole : SameWhenWhole
same_when_whole start base txs lanes events well log numbered whole = (
  (λ w. record {
    applied_in_order = w.applied_in_order;
    sent = w.sent;
    in_sending_order = w.in_sending_order;
    waited = strong start txs (items lanes) events (due_along start base txs log well) (items_in_order lanes numbered)
        (λ j sent. elim (cases_Bool (is_held (namespace_after start txs) (items lanes j.dn) j)) [
          | inl waits ↦ told_by j Flush events (whole j sent waits)
          | inr free ↦ told_by j Due events (w.none_forgotten j sent free)
        ]) [] events refl w.sent w.in_sending_order w.waited w.flush_last (λ unflushed j sent told. absurd (both_ways _ refl told));
    flush_last = w.flush_last;
    flush_held = w.flush_held;
    none_forgotten = w.none_forgotten;
  }),
  lawful_is_loose start txs (items lanes) events,
)
