-- The last message of a DataNode about a block that a history processed is the last one that counts in its lane.
use Rattle.std.proofs.Common.{◌≡◌, ℕ, ◌+◌, ◌≤◌, ◌<◌, Bool, true, false, cond, ◌&&◌, List, [], ◌∷◌, ◌++◌, Some, None, Option, refl, sym, ap, subst, ◌∙◌, inl, inr, ⊎_elim, arith, append_assoc, append-nil}
use Rattle.std.specs.Prelude.{◌⊎◌, ◌==◌, nat_le, filter}
use Rattle.std.specs.List.{list_any, last_or}
use Rattle.std.proofs.lemmas.Bool.{both_ways, and_parts, and_from, eqb-true, eq-eqb, leb-true, le-leb, cases_Bool, false_from_ne_true, cond-true, cond-false, cases_lt}
use Rattle.nn_types.specs.declared.report.Message.{Message}
use Rattle.nn_types.specs.declared.event.Event.{Event}
use Rattle.nn_types.specs.declared.event.Event.TheVariants.{Applied, Processed}
use Rattle.nn_types.specs.declared.tx.Tx.{Tx}
use Rattle.nn_model.specs.Namespace.{Namespace}
use Rattle.nn_model.specs.WellFormed.{Includes}
use Rattle.nn_model.specs.Lanes.{Lanes, AreInOrder, AreOrdered, message_with, message_of, IsSent}
use Rattle.nn_model.specs.History.{History, EachAfter}
use Rattle.nn_model.specs.Lawful.{NumberRises, processes_from}
use Rattle.nn_model.proofs.Events.{any_push, any_kept, any_last, any_weaker, reaches_less, Tells, named_found}
use Rattle.nn_model.proofs.Sent.{before_later, found_message, has_sent}
use Rattle.nn_model.proofs.Shown.{done_by, last_done}

-- ---- the last message of a lane that passes a test

module _ (dn : ℕ) (q : Message → Bool) where
  pub last_bounds : (ms : List Message) (acc : Option Message) → AreInOrder dn ms →
      ((c : Message) → acc ≡ Some c → (m : Message) → Includes ms m → c.number ≤ m.number) →
      ((m : Message) → acc ≡ Some m → (a : Message) × (last_or acc (filter q ms) ≡ Some a) × (m.number ≤ a.number))
      × ((m : Message) → Includes ms m → q m ≡ true → (a : Message) × (last_or acc (filter q ms) ≡ Some a) × (m.number ≤ a.number))
  last_bounds [] acc order low = ((λ m is. (m, is, omega arith)), (λ m here passes. absurd here))
  last_bounds (x ∷ ms) acc order low =
      elim (q x) as (λ t. q x ≡ t →
      ((m : Message) → acc ≡ Some m → (a : Message) × (last_or acc (cond t (x ∷ filter q ms) (filter q ms)) ≡ Some a) × (m.number ≤ a.number))
      × ((m : Message) → Includes (x ∷ ms) m → q m ≡ true → (a : Message) × (last_or acc (cond t (x ∷ filter q ms) (filter q ms)) ≡ Some a)
      × (m.number ≤ a.number))) [
        | true ↦ λ is.
            let rest = last_bounds ms (Some x) order.2
            (λ c e m here. let same : x ≡ c = cc in subst (λ y. y.number ≤ m.number) same (before_later dn x ms m order here).0) in
            let own = rest.0 x refl in (
              (λ m e. (own.0, own.1, omega (arith, own.2, low m e x (inl refl)))),
              (λ m here passes. elim here [ inl same ↦ (own.0, own.1, subst (λ y. y.number ≤ own.0.number) same own.2) | inr later ↦ rest.1 m later passes ]),
            )
        | false ↦ λ is.
            let rest = last_bounds ms acc order.2 (λ c e m here. low c e m (inr here)) in
            (rest.0, (λ m here passes. elim here [ inl same ↦ absurd (both_ways _ is (ap q same ∙ passes)) | inr later ↦ rest.1 m later passes ]))
      ] refl

  pub last_from : (ms : List Message) (acc : Option Message) (a : Message) → last_or acc (filter q ms) ≡ Some a → (acc ≡ Some a) ⊎ (Includes ms a × (q a ≡ true))
  last_from [] acc a is = inl is
  last_from (x ∷ ms) acc a is =
      elim (q x) as (λ t. q x ≡ t → last_or acc (cond t (x ∷ filter q ms) (filter q ms)) ≡ Some a → (acc ≡ Some a) ⊎ (Includes (x ∷ ms) a × (q a ≡ true))) [
        | true ↦ λ passes e. elim (last_from ms (Some x) a e) [
          | inl own ↦
              (let same : x ≡ a = cc in inr (inl same, ap q (sym same) ∙ passes))
          | inr later ↦ inr (inr later.0, later.1)
        ]
        | false ↦ λ fails e. elim (last_from ms acc a e) [ inl own ↦ inl own | inr later ↦ inr (inr later.0, later.1) ]
      ] refl is

-- ---- the last message that was processed

module _ (lanes : Lanes) (dn id : ℕ) where
  -- nothing of this DataNode and block beyond this message was processed, and the message was
  pub record IsLastDone (a : Message) (before : History) : Type 0 where
    pub sent : IsSent lanes a
    pub dn_is : a.dn ≡ dn
    pub block_is : a.block ≡ id
    pub beyond : list_any (processes_from dn id (a.number + 1)) before ≡ false
    pub reached : list_any (processes_from dn id a.number) before ≡ true

  abbrev pub Bounds : Option Message → History → Type 0
  Bounds None before = list_any (processes_from dn id 0) before ≡ false
  Bounds (Some a) before = IsLastDone a before

  bounds_keep : (last : Option Message) (before : History) (e : Event) → ((j : ℕ) → processes_from dn id j e ≡ false) → Bounds last before →
      Bounds last (before ++ e ∷ [])
  bounds_keep None before e past b = any_push (processes_from dn id 0) before e b (past 0)
  bounds_keep (Some a) before e past b = record {
    sent = b.sent;
    dn_is = b.dn_is;
    block_is = b.block_is;
    beyond = any_push (processes_from dn id (a.number + 1)) before e b.beyond (past (a.number + 1));
    reached = any_kept (processes_from dn id a.number) before (e ∷ []) b.reached;
  }

  pub walk_last : (start : Namespace) (txs : List Tx) (before events : History) (last : Option Message) →
      EachAfter (Tells start txs lanes) before events → EachAfter NumberRises before events →
      Bounds last before → Bounds (last_done lanes dn id last events) (before ++ events)
  walk_last start txs before [] last named rises b = subst (Bounds last) (sym (append-nil before)) b
  walk_last start txs before (Applied txid ∷ events) last named rises b =
      subst (Bounds (last_done lanes dn id last events)) (append_assoc before (Applied txid ∷ []) events)
      (walk_last start txs (before ++ Applied txid ∷ []) events last named.1 rises.1 (bounds_keep last before (Applied txid) (λ j. refl) b))
  walk_last start txs before (Processed d k c cause ∷ events) last named rises b =
      let e : Event = Processed d k c cause in
      let m = named.0.0 in
      let found : message_of lanes d k c ≡ Some m = named_found lanes m d k c named.0.1 named.0.2 named.0.3 named.0.4 in
      let now : Bounds (done_by lanes dn id last e) (before ++ e ∷ []) = elim (cases_Bool ((dn == d) && (id == c))) [
        | inl hit ↦
            let parts = and_parts _ _ hit in
            let dn_is : dn ≡ d = eqb-true _ _ parts.0 in
            let id_is : id ≡ c = eqb-true _ _ parts.1 in
            let number : m.number ≡ k = named.0.3 in
            subst (λ o. Bounds o (before ++ e ∷ [])) (sym (cond-true ((dn == d) && (id == c)) (message_of lanes d k c) last hit ∙ found)) (record {
              sent = named.0.1;
              dn_is = named.0.2 ∙ sym dn_is;
              block_is = named.0.4 ∙ sym id_is;
              beyond = any_push (processes_from dn id (m.number + 1)) before e
                  (any_weaker (processes_from d c k) (processes_from dn id (m.number + 1))
                  (λ x h. subst (λ y. processes_from d y k x ≡ true) id_is (subst (λ y. processes_from y id k x ≡ true) dn_is
                  (reaches_less dn id k (m.number + 1) (omega arith) x h))) before rises.0)
                  (false_from_ne_true _ (λ h. let over : m.number + 1 ≤ k = leb-true _ _ (and_parts _ _ h).1 in omega arith));
              reached = any_last (processes_from dn id m.number) before e
                  (and_from _ _ (and_from _ _ (eq-eqb _ _ (sym dn_is)) (eq-eqb _ _ (sym id_is)))
                  (subst (λ j. nat_le m.number j ≡ true) number (le-leb m.number m.number (omega arith))));
            })
        | inr miss ↦ subst (λ o. Bounds o (before ++ e ∷ [])) (sym (cond-false ((dn == d) && (id == c)) (message_of lanes d k c) last miss))
            (bounds_keep last before e (λ j. false_from_ne_true _ (λ h.
            let inner = and_parts (d == dn) (c == id) (and_parts ((d == dn) && (c == id)) (nat_le j k) h).0 in
            both_ways _ miss (and_from (dn == d) (id == c) (eq-eqb _ _ (sym (eqb-true d dn inner.0))) (eq-eqb _ _ (sym (eqb-true c id inner.1)))))) b)
      ] in
      subst (Bounds (last_done lanes dn id (done_by lanes dn id last e) events)) (append_assoc before (e ∷ []) events)
      (walk_last start txs (before ++ e ∷ []) events (done_by lanes dn id last e) named.1 rises.1 now)

-- ---- the two are one

-- q: which messages of the lane count. All that count were reached, and what was processed last counts
module _ (lanes : Lanes) (ordered : AreOrdered lanes) (h : History) (dn id : ℕ) (q : Message → Bool)
    (reached : (c : Message) → Includes (lanes dn) c → q c ≡ true → c.block ≡ id → list_any (processes_from dn id c.number) h ≡ true)
    (counts : (a : Message) → IsLastDone lanes dn id a h → q a ≡ true) where
  abbrev test : Message → Bool
  test m = q m && (m.block == id)

  test_reached : (c : Message) → Includes (lanes dn) c → (q c && (c.block == id)) ≡ true → list_any (processes_from dn id c.number) h ≡ true
  test_reached c here passes = let parts = and_parts (q c) (c.block == id) passes in reached c here parts.0 (eqb-true _ _ parts.1)

  pub agree : (r z : Option Message) → Bounds lanes dn id r h → last_or None (filter (λ m. q m && (m.block == id)) (lanes dn)) ≡ z → z ≡ r
  agree None None b is = refl
  agree None (Some c) b is = elim (last_from dn (λ m. q m && (m.block == id)) (lanes dn) None c is) [
    | inl none ↦ absurd (cc)
    | inr found ↦ absurd (both_ways _ (any_weaker (processes_from dn id 0) (processes_from dn id c.number) (reaches_less dn id 0 c.number (omega arith)) h b)
        (test_reached c found.0 found.1))
  ]
  agree (Some a) z b is =
      let here : Includes (lanes dn) a = subst (λ i. Includes (lanes i) a) b.dn_is (has_sent lanes a b.sent) in
      let c = (last_bounds dn (λ m. q m && (m.block == id)) (lanes dn) None (ordered dn) (λ y e m h. absurd (cc))).1 a here
      (and_from (q a) (a.block == id) (counts a b) (eq-eqb _ _ b.block_is)) in
      elim (last_from dn (λ m. q m && (m.block == id)) (lanes dn) None c.0 c.1) [
        | inl none ↦ absurd (cc)
        | inr found ↦
            let at_most : c.0.number ≤ a.number = ⊎_elim
            (λ (x : a.number < c.0.number). absurd (both_ways _
            (any_weaker (processes_from dn id (a.number + 1)) (processes_from dn id c.0.number) (reaches_less dn id (a.number + 1) c.0.number (omega arith)) h b.beyond)
            (test_reached c.0 found.0 found.1)))
            (λ (x : c.0.number ≤ a.number). x) (cases_lt a.number c.0.number) in
            let number : c.0.number ≡ a.number = omega (arith, at_most, c.2) in
            let block : c.0.block ≡ a.block = eqb-true _ _ (and_parts _ _ found.1).1 ∙ sym b.block_is in
            let left : message_with a.number a.block (lanes dn) ≡ Some a = found_message dn (lanes dn) a (ordered dn) here in
            let right : message_with c.0.number c.0.block (lanes dn) ≡ Some c.0 = found_message dn (lanes dn) c.0 (ordered dn) found.0 in
            sym is ∙ c.1 ∙ sym right ∙ (λ i. message_with (number i) (block i) (lanes dn)) ∙ left
      ]
