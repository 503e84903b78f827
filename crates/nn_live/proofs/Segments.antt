-- A segment that the code followed is one that the definition's service followed.
use Rattle.std.proofs.Common.{◌≡◌, ℕ, ◌+◌, ◌-◌, ◌<◌, ◌≤◌, List, [], ◌∷◌, Some, None, ◌++◌, true, false, cond, length, drop, codes, ltb, sym, subst, ap, ap₂, ◌∙◌, append-nil}
use Rattle.std.specs.Prelude.{decimal, slice_get}
use Rattle.std.proofs.lemmas.Bool.{lt-ltb, le-ltb}
use Rattle.nn_types.specs.declared.fault.TheConstants.{DISORDER}
use Rattle.nn_types.specs.declared.tx.Tx.{Tx}
use Rattle.nn_model.specs.Log.{counted}
use Rattle.nn_model.specs.Stands.{StandbyState}
use Rattle.nn_segment.specs.Segment.{Segment, IsSegment, starts, first_txid}
use Rattle.nn_segment.proofs.Walks.{adds_the_rest}
use Rattle.nn_live.specs.Live.{LiveSetup, ServiceState, follows, follows_new, follows_txs, says, tells_gap}
use Rattle.nn_live.specs.Serving.{Service, IsAtService, FollowsStep, fault_text}
use Rattle.nn_live.proofs.Places.{then_makes, same_makes, only_tells}

abbrev pub gap_text : Service → List ℕ
gap_text x = fault_text DISORDER (codes " txid " ++ decimal (x.shadow.last + 1) ++ codes " segment ") x.segments

module _ (x : Service) (txs : List Tx) where
  last_is : (asked : LiveSetup) (s : ServiceState) → IsAtService asked x s → x.shadow.last ≡ s.standby.last
  last_is asked s i = ap (λ (y : StandbyState). y.last) i.standby

  pub behind_a_gap : x.shadow.last + 1 < first_txid txs → FollowsStep (λ asked s. follows_txs asked txs s) x x (gap_text x)
  behind_a_gap high = only_tells (λ asked s. follows_txs asked txs s) x _ (λ asked s i.
      (let above : ltb (s.standby.last + 1) (first_txid txs) ≡ true = lt-ltb _ _ (subst (λ l. l + 1 < first_txid txs) (last_is asked s i) high) in
      ap (λ b. cond b (tells_gap s) (follows_new asked txs (counted s.standby.last txs) s)) above
      ∙ ap₂ (λ l k. says (fault_text DISORDER (codes " txid " ++ decimal (l + 1) ++ codes " segment ") k) s) (sym (last_is asked s i)) (sym i.segments)))

  -- the old ones are passed over
  passes : List Tx → LiveSetup → ServiceState → ServiceState
  passes new asked s = record s { passed = s.passed + (length txs - length new) }

  pub now_followed : (new : List Tx) (y : Service) (text : List ℕ) → first_txid txs ≤ x.shadow.last + 1 → counted x.shadow.last txs ≡ new
      → FollowsStep (λ asked s. follows asked new s) (record x { passed = x.passed + (length txs - length new) }) y text → FollowsStep (λ asked s. follows_txs asked txs s) x y text
  unfolding passes
  now_followed new y text low is made =
      same_makes (λ asked s. follows_txs asked txs s) (λ asked s. follows asked new (passes new asked s)) x y text (λ asked s i.
      (let below : ltb (s.standby.last + 1) (first_txid txs) ≡ false = le-ltb _ _ (subst (λ l. first_txid txs ≤ l + 1) (last_is asked s i) low) in
      let new_is : counted s.standby.last txs ≡ new = ap (λ l. counted l txs) (sym (last_is asked s i)) ∙ is in
      ap₂ (λ b ts. cond b (tells_gap s) (follows_new asked txs ts s)) below new_is))
      (then_makes (passes new) (λ asked s. follows asked new s) x (record x { passed = x.passed + (length txs - length new) }) y [] text (record {
        at = λ asked s i. record { asks = i.asks; standby = i.standby; phase = i.phase; sent = i.sent; in_hand = i.in_hand; known = i.known; epoch = i.epoch; promoted = i.promoted; full = i.full; passed = ap (λ p. p + (length txs - length new)) i.passed; segments = i.segments; lines = i.lines; log = i.log };
        written = λ asked s i. sym (append-nil s.written);
      }) made)

pub new_ones : (last : ℕ) (txs : List Tx) → (g : Segment) × IsSegment g × (g.txs ≡ txs) → first_txid txs ≤ last + 1 → counted last txs ≡ drop (last + 1 - first_txid txs) txs
new_ones last txs (g, is, e) low = subst (λ (ts : List Tx). counted last ts ≡ drop (last + 1 - first_txid ts) ts) e (adds_the_rest last g is (subst (λ (ts : List Tx). first_txid ts ≤ last + 1) (sym e) low)).0

pub first_of : (txs : List Tx) (t : Tx) → Some t ≡ slice_get txs 0 → t.txid ≡ first_txid txs
first_of [] t e = absurd (cc)
first_of (x ∷ txs) t e = cc

-- a segment has a transaction
pub has_first : (txs : List Tx) → (g : Segment) × IsSegment g × (g.txs ≡ txs) → slice_get txs 0 ≡ None → ⊥
has_first [] (g, is, e) none = let bad : starts [] ≡ true = subst (λ (ts : List Tx). starts ts ≡ true) e is.starts in absurd (cc)
has_first (x ∷ txs) s none = absurd (cc)
