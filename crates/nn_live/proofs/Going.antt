-- A segment is followed as far as the log of a run goes on in it.
use Rattle.std.proofs.Common.{◌≡◌, ℕ, ◌≤◌, ◌+◌, ◌-◌, ltb, Bool, true, false, cond, List, [], ◌∷◌, ◌++◌, length, None, Some, Option, Result, Ok, Err, refl, sym, subst, ap, ◌∙◌, arith, append-nil}
use Rattle.std.specs.List.{All}
use Rattle.std.proofs.lemmas.Bool.{ltb-false}
use Rattle.std.proofs.lemmas.List.Elements.{All-nil, All-cons}
use Rattle.nn_types.specs.declared.edit_fault.EditFault.{EditFault}
use Rattle.nn_types.specs.declared.tx.Tx.{Tx}
use Rattle.nn_model.specs.Apply.{refusal, effect, outcome}
use Rattle.nn_model.specs.Log.{counted, CountsUp}
use Rattle.nn_model.proofs.Logs.{counts_up}
use Rattle.nn_segment.specs.LogEnd.{LogEnd, LogStop, disorder, go_on, and_then, end_of_txs, end_of_log}
use Rattle.nn_segment.specs.Segment.{Segment, first_txid}
use Rattle.nn_segment.specs.declared.fault.SegmentFault.{SegmentFault}
use Rattle.nn_shadow.specs.Calls.{applied_to}
use Rattle.nn_shadow.specs.Laws.{IsInService}
use Rattle.nn_shadow.specs.Refusals.{apply_refusal}
use Rattle.nn_shadow.proofs.Refusing.{next_applies}
use Rattle.nn_live.specs.Live.{LiveSetup, ServiceState, applies, follows, follows_new, follows_segment, tells_gap, comes_to}
use Rattle.nn_live.proofs.Twice.{reach}

abbrev pub IsWithin : ℕ → Tx → Type 0
IsWithin k tx = tx.txid ≤ k

up_to : (b : ℕ) (txs : List Tx) → CountsUp b txs → (k : ℕ) → b + length txs ≤ k → All (IsWithin k) txs
up_to b [] up k most = All-nil (IsWithin k)
up_to b (tx ∷ txs) up k most = All-cons (IsWithin k) tx txs (omega (arith, up.0, most)) (up_to tx.txid txs up.1 k (omega (arith, up.0, most)))

module _ (asked : LiveSetup) where
  -- a service that went on in its log, and did nothing else
  pub record WentOn (s t : ServiceState) (end : LogEnd) : Type 0 where
    pub last : t.standby.last ≡ end.last
    pub namespace : t.standby.namespace ≡ end.namespace
    pub phase : t.phase ≡ s.phase
    pub sent : t.sent ≡ s.sent
    pub in_hand : t.in_hand ≡ s.in_hand
    pub known : t.known ≡ s.known
    pub epoch : t.epoch ≡ s.epoch
    pub lines : t.lines ≡ s.lines
    pub silent : asked.history ≡ false → t.written ≡ s.written

  -- with what came before
  more : (s r t : ServiceState) (end : LogEnd) → r.phase ≡ s.phase → r.sent ≡ s.sent → r.in_hand ≡ s.in_hand → r.known ≡ s.known → r.epoch ≡ s.epoch → r.lines ≡ s.lines
      → (asked.history ≡ false → r.written ≡ s.written) → WentOn r t end → WentOn s t end
  more s r t end phase sent in_hand known epoch lines silent w = record {
    last = w.last;
    namespace = w.namespace;
    phase = w.phase ∙ phase;
    sent = w.sent ∙ sent;
    in_hand = w.in_hand ∙ in_hand;
    known = w.known ∙ known;
    epoch = w.epoch ∙ epoch;
    lines = w.lines ∙ lines;
    silent = λ h. w.silent h ∙ silent h;
  }

  pub told_nothing : (written told : List ℕ) → asked.history ≡ false → written ++ cond asked.history told [] ≡ written
  told_nothing written told h = ap (λ b. written ++ cond b told []) h ∙ append-nil written

  went_on : (txs : List Tx) (s : ServiceState) (end : LogEnd) → IsInService s.phase → CountsUp s.standby.last txs → end_of_txs s.standby.last s.standby.namespace txs ≡ Ok end
      → WentOn s (follows asked txs s) end × (end.last ≡ s.standby.last + length txs)
  unfolding end_of_txs
  went_on [] s end serves up is =
      let same : record { last = s.standby.last; namespace = s.standby.namespace } ≡ end = cc in (
        record {
          last = ap (λ (e : LogEnd). e.last) same;
          namespace = ap (λ (e : LogEnd). e.namespace) same;
          phase = refl;
          sent = refl;
          in_hand = refl;
          known = refl;
          epoch = refl;
          lines = refl;
          silent = λ h. refl;
        },
        let k = ap (λ (e : LogEnd). e.last) same in omega (arith, k),
      )
  went_on (tx ∷ txs) s end serves up is = at (went_on txs) (refusal s.standby.namespace tx.edit) refl is
    where
      next : ServiceState
      next = comes_to asked (applied_to s.standby tx) (record s { log = s.log ++ tx ∷ [] })

      at : ((r : ServiceState) (e : LogEnd) → IsInService r.phase → CountsUp r.standby.last txs → end_of_txs r.standby.last r.standby.namespace txs ≡ Ok e
          → WentOn r (follows asked txs r) e × (e.last ≡ r.standby.last + length txs))
          → (o : Option EditFault) → refusal s.standby.namespace tx.edit ≡ o
          → go_on tx.txid (outcome o (effect s.standby.namespace tx.edit)) (λ n. end_of_txs tx.txid n txs) ≡ Ok end
          → WentOn s (follows asked (tx ∷ txs) s) end × (end.last ≡ s.standby.last + length (tx ∷ txs))
      at rest (Some fault) refused e = absurd (cc)
      at rest None none e =
          let later = rest next end serves up.1 e in
          let applied : apply_refusal s.phase s.standby tx ≡ None = next_applies s.phase s.standby tx serves up.0 none in
          let there : follows asked (tx ∷ txs) s ≡ follows asked txs next = ap (λ o. applies asked tx o (λ t. follows asked txs t) s) applied in (
            subst (λ t. WentOn s t end) (sym there) (more s next (follows asked txs next) end refl refl refl refl refl refl (λ h. told_nothing s.written _ h) later.0),
            let k = later.1 in omega (arith, k, up.0),
          )

  -- ---- A segment.

  -- a segment was followed to this end of the log, and the others are left
  pub record Followed (s t : ServiceState) (g : Segment) (segments : List Segment) (end : LogEnd) : Type 0 where
    pub mid : LogEnd
    pub on : WentOn s t mid
    pub grows : s.standby.last ≤ mid.last
    pub rest : end_of_log mid.last mid.namespace segments ≡ Ok end
    pub within : All (IsWithin mid.last) g.txs

  pub followed : (r : Result Segment SegmentFault) (g : Segment) (segments : List Segment) (end : LogEnd) (s : ServiceState) → r ≡ Ok g → CountsUp (first_txid g.txs - 1) g.txs → IsInService s.phase
      → end_of_log s.standby.last s.standby.namespace (g ∷ segments) ≡ Ok end → Followed s (follows_segment asked r s) g segments end
  unfolding end_of_log
  followed r g segments end s is up serves ends =
      subst (λ q. Followed s (follows_segment asked q s) g segments end) (sym is) (at (ltb (s.standby.last + 1) (first_txid g.txs)) refl ends)
    where
      new : List Tx
      new = counted s.standby.last g.txs

      from : ServiceState
      from = record s { passed = s.passed + (length g.txs - length new) }

      then_ends : Result LogEnd LogStop → Result LogEnd LogStop
      then_ends o = and_then o (λ e. end_of_log e.last e.namespace segments)

      after : ltb (s.standby.last + 1) (first_txid g.txs) ≡ false → (o : Result LogEnd LogStop) → end_of_txs s.standby.last s.standby.namespace new ≡ o → then_ends o ≡ Ok end
          → Followed s (follows asked new from) g segments end
      after low (Err stop) e f = absurd (cc)
      after low (Ok mid) e f =
          let w = went_on new from mid serves (counts_up s.standby.last g.txs) e in
          let first = ltb-false (s.standby.last + 1) (first_txid g.txs) low in
          let far = reach (first_txid g.txs - 1) g.txs up s.standby.last (omega (arith, first)) in
          record {
            mid = mid;
            on = more s from (follows asked new from) mid refl refl refl refl refl refl (λ h. refl) w.0;
            grows = (let k = w.1 in omega (arith, k));
            rest = f;
            within = up_to (first_txid g.txs - 1) g.txs up mid.last (let k = w.1 in omega (arith, far, k));
          }

      at : (b : Bool) → ltb (s.standby.last + 1) (first_txid g.txs) ≡ b
          → cond b (Err (record { cause = disorder; txid = s.standby.last + 1 })) (then_ends (end_of_txs s.standby.last s.standby.namespace new)) ≡ Ok end
          → Followed s (cond b (tells_gap s) (follows_new asked g.txs new s)) g segments end
      at true e f = absurd (cc)
      at false e f = after e (end_of_txs s.standby.last s.standby.namespace new) refl f
