-- Where a standby stands after each move.
use Rattle.std.proofs.Common.{◌≡◌, ℕ, ◌+◌, ◌<◌, ◌≤◌, true, false, List, [], ◌∷◌, ◌++◌, length, Option, Some, None, Ok, Err, refl, sym, ap, ◌∙◌, subst, arith, append_assoc}
use Rattle.nn_types.specs.declared.report.Message.{Message}
use Rattle.nn_types.specs.declared.tx.Tx.{Tx}
use Rattle.nn_model.specs.Namespace.{Namespace}
use Rattle.nn_model.specs.Lanes.{Lanes}
use Rattle.nn_lane.specs.Ends.{LaneEnd}
use Rattle.nn_model.specs.History.{History, IsBeforeFlush}
use Rattle.nn_model.specs.Stands.{StandbyState, Stands}
use Rattle.nn_shadow.specs.Contents.{Shadow, standby_of}
use Rattle.nn_shadow.specs.Laws.{StandsBy}
use Rattle.nn_shadow.specs.Calls.{with_past}
use Rattle.nn_lane_standby.specs.Shadows.{ShowsSame, shadow_with_past}
use Rattle.nn_shadow.specs.declared.fault.Stop.{Stop}
use Rattle.nn_shadow.specs.declared.fault.StopCause.TheVariants.{Disorder}
use Rattle.nn_segment.specs.Segment.{Segment, first_txid}
use Rattle.nn_segment.specs.Source.{Answer, end}
use Rattle.nn_model.specs.Log.{counted as news}
use Rattle.nn_segment.specs.Walk.{log_in}
use Rattle.nn_segment.specs.declared.source.Item.TheVariants.{Segment as segment}
use Rattle.nn_segment.specs.declared.fault.SourceFault.{SourceFault}
use Rattle.nn_segment.proofs.Walks.{behind_the_rest, end_adds_nothing, fault_adds_nothing}
use Rattle.nn_model.specs.Apply.{refusal}
use Rattle.nn_segment.specs.LogEnd.{end_of_log, end_behind, given_in}
use Rattle.nn_segment.proofs.Asks.{end_gives_none, fault_gives_none, one_given}
use Rattle.nn_lane_standby.proofs.LogEnds.{behind_none, behind_gap, behind_segment, behind_applied, behind_refused, same_given, same_way, not_refused}
use Rattle.nn_lane_standby.proofs.Shadowing.{same_last, same_namespace, applied_last, applied_namespace, handed_last, handed_namespace}
use Rattle.nn_lane_standby.specs.Tailing.{has_begun, Standby, standby_with_past, log_cause, StopsLog, Keeps, StandsAt, Carries, lanes_of, handed_all, by_node, undelivered_at, with_undelivered, with_lane, with_shadow, stopping}
use Rattle.nn_lane_standby.specs.Parts.{IsLive, AppliesNext, StopsAt, HandsUndelivered, IsAsBefore}
use Rattle.nn_lane_standby.proofs.Moves.{lanes_grow}

append_none : {A : Type 0} (xs : List A) → xs ++ [] ≡ xs
append_none [] = refl
append_none (x ∷ xs) = ap (λ l. x ∷ l) (append_none xs)

pub carries_same : (x : Standby) → Carries x [] x
carries_same x past start base given s = subst (λ g. StandsAt start base g (standby_with_past past x)) (sym (append_none given)) s

pub carries_then : (x y z : Standby) (rs bs : List Answer) → Carries x rs y → Carries y bs z → Carries x (rs ++ bs) z
carries_then x y z rs bs f g past start base given s = subst (λ h. StandsAt start base h (standby_with_past past z)) (append_assoc given rs bs) (g past start base (given ++ rs) (f past start base given s))

-- no move but the flush begins it
not_begun : {P : Type 0} (x : Standby) → IsLive x → has_begun x ≡ true → P
not_begun x l h = absurd (let e : false ≡ true = sym l.0 ∙ h in cc)

-- an answer without a segment adds nothing to the log
abbrev pub AddsNone : Answer → Type 0
AddsNone r = (given : List Answer) → ((base : ℕ) → log_in base (given ++ r ∷ []) ≡ log_in base given) × (given_in (given ++ r ∷ []) ≡ given_in given)

pub end_adds_none : AddsNone end
end_adds_none given = ((λ base. end_adds_nothing base given), end_gives_none given)

pub fault_adds_none : (fault : SourceFault) → AddsNone (Err fault)
fault_adds_none fault given = ((λ base. fault_adds_nothing base given fault), fault_gives_none fault given)

-- a standby that was not stopped is where no log stops
not_stopped : {P : Type 0} (o : Option Stop) (m : Stop) → o ≡ None → o ≡ Some m → P
not_stopped o m n q = absurd (let e : None ≡ Some m = sym n ∙ q in cc)

pub carries_answer : (x : Standby) (r : Answer) → IsLive x → AddsNone r → Carries x (r ∷ []) x
carries_answer x r l h past start base given s = record {
  txs = s.txs;
  shadow = s.shadow;
  before_flush = s.before_flush;
  log = (h given).0 base ∙ s.log;
  goes_on = λ q later. ap (λ g. end_of_log base start (g ++ later)) (h given).1 ∙ s.goes_on q later;
  stops = λ m q. not_stopped x.stop m l.1 q;
  ended = not_begun x l;
}

-- no answer is the same log
pub same_log : (base : ℕ) (given : List Answer) (txs : List Tx) → log_in base given ≡ txs → log_in base (given ++ []) ≡ txs
same_log base given txs h = ap (log_in base) (append_none given) ∙ h

-- a live standby flushed nothing yet
pub stands_live : (start : Namespace) (base : ℕ) (given : List Answer) (x : Standby) → IsLive x → (s : StandsAt start base given x) → StandsBy start base s.txs (lanes_of x) (standby_of x.shadow)
stands_live start base given x l s = record { stands = s.shadow; before_flush = s.before_flush l.2 }

-- a segment adds what is new in it
pub record TakesIn (old : Standby) (p : Segment) (new : Standby) : Type 0 where
  pub live : IsLive old
  pub was : old.rest ≡ []
  pub shadow : new.shadow ≡ old.shadow
  pub ends : new.ends ≡ old.ends
  pub undelivered : new.undelivered ≡ old.undelivered
  pub begun : has_begun new ≡ has_begun old
  pub stop : new.stop ≡ None
  pub low : first_txid p.txs ≤ old.shadow.last + 1
  pub now : new.rest ≡ news old.shadow.last p.txs

-- a segment begins above the next one
pub record FindsGap (old : Standby) (p : Segment) (m : Stop) (new : Standby) : Type 0 where
  pub live : IsLive old
  pub was : old.rest ≡ []
  pub high : old.shadow.last + 1 < first_txid p.txs
  pub none : news old.shadow.last p.txs ≡ []
  pub txid : m.txid ≡ old.shadow.last + 1
  pub cause : m.cause ≡ Disorder
  pub now : new ≡ stopping old m

more : (base : ℕ) (given : List Answer) (p : Segment) (txs : List Tx) (last : ℕ) → log_in base given ≡ txs → last ≡ base + length txs → log_in base (given ++ Ok (segment p) ∷ []) ≡ txs ++ news last p.txs
more base given p txs last e l =
    let none : List Tx = [] in
    let at : base + length txs + length none ≡ last = omega (arith, l) in
    behind_the_rest base given txs [] p (e ∙ sym (append_none txs)) ∙ ap (λ n. txs ++ news n p.txs) at

lanes_by : (x y : Standby) → y.ends ≡ x.ends → y.undelivered ≡ x.undelivered → lanes_of y ≡ lanes_of x
lanes_by x y e k = ap (λ es. by_node (handed_all es y.undelivered)) e ∙ ap (λ ks. by_node (handed_all x.ends ks)) k

moved : (start : Namespace) (base : ℕ) (txs : List Tx) (lanes lanes' : Lanes) (s s' : StandbyState) → s' ≡ s → lanes' ≡ lanes → Stands start base txs lanes s → Stands start base txs lanes' s'
moved start base txs lanes lanes' s s' e l h = subst (λ z. Stands start base txs z s') (sym l) (subst (λ z. Stands start base txs lanes z) (sym e) h)

-- from there the log goes on with this segment
from_segment : (start : Namespace) (base : ℕ) (given : List Answer) (old : Standby) (p : Segment) (later : List Segment) → StandsAt start base given old → IsLive old → old.rest ≡ []
    → end_of_log base start (given_in (given ++ Ok (segment p) ∷ []) ++ later) ≡ end_of_log old.shadow.last old.shadow.namespace (p ∷ later)
from_segment start base given old p later s l was =
    ap (end_of_log base start) (one_given given p later) ∙ s.goes_on l.1 (p ∷ later)
    ∙ ap (λ r. end_behind old.shadow.last old.shadow.namespace r (p ∷ later)) was ∙ behind_none old.shadow.last old.shadow.namespace (p ∷ later)

pub carries_segment : (old new : Standby) (p : Segment) → TakesIn old p new → Carries old (Ok (segment p) ∷ []) new
carries_segment old new p t past start base given s = record {
  txs = s.txs;
  shadow = moved start base s.txs (lanes_of old) (lanes_of new) (standby_of (shadow_with_past past old.shadow)) (standby_of (shadow_with_past past new.shadow)) (ap (λ z. standby_of (shadow_with_past past z)) t.shadow) (lanes_by old new t.ends t.undelivered) s.shadow;
  before_flush = λ _. subst (λ (z : Shadow). IsBeforeFlush (past ++ z.history)) (sym t.shadow) (s.before_flush t.live.2);
  log = more base given p s.txs old.shadow.last (s.log ∙ ap (λ z. s.txs ++ z) t.was ∙ append_none s.txs) s.shadow.last ∙ ap (λ z. s.txs ++ z) (sym t.now);
  goes_on = (λ _ later. from_segment start base given (standby_with_past past old) p later s t.live t.was
      ∙ behind_segment old.shadow.last old.shadow.namespace p later t.low
      ∙ (λ j. end_behind (sym t.shadow j).last (sym t.shadow j).namespace (sym t.now j) later));
  stops = λ m q. not_stopped new.stop m t.stop q;
  ended = λ h. not_begun old t.live (sym t.begun ∙ h);
}

pub carries_gap : (old new : Standby) (p : Segment) (m : Stop) → FindsGap old p m new → Carries old (Ok (segment p) ∷ []) new
carries_gap old new p m t = subst (λ z. Carries old (Ok (segment p) ∷ []) z) (sym t.now) (λ past start base given s. record {
  txs = s.txs;
  shadow = s.shadow;
  before_flush = s.before_flush;
  log = more base given p s.txs old.shadow.last (s.log ∙ ap (λ z. s.txs ++ z) t.was ∙ append_none s.txs) s.shadow.last ∙ ap (λ z. s.txs ++ z) (t.none ∙ sym t.was);
  goes_on = (λ q. absurd (let e : Some m ≡ None = q in cc));
  stops = (λ z q. let e : m ≡ z = cc in subst (λ w. StopsLog start base (given ++ Ok (segment p) ∷ []) w) e (
      λ later. from_segment start base given (standby_with_past past old) p later s t.live t.was ∙ behind_gap old.shadow.last old.shadow.namespace p later t.high
      ∙ (λ j. Err (record { cause = log_cause (sym t.cause j); txid = sym t.txid j }))
      ));
  ended = not_begun old t.live;
})

-- a transaction is applied
pub carries_applied : (old new : Standby) (txid : ℕ) → IsLive old → AppliesNext old txid new → Carries old [] new
carries_applied old new txid l a = subst (λ z. Carries old [] z) (sym a.now) (λ past start base given s.
    let by = a.applied.stands past start base s.txs (lanes_of old) (stands_live start base given (standby_with_past past old) l s) in record {
      txs = s.txs ++ a.tx ∷ [];
      shadow = by.stands;
      before_flush = λ _. by.before_flush;
      log = same_log base given (s.txs ++ old.rest) s.log ∙ ap (λ z. s.txs ++ z) a.was ∙ sym (append_assoc s.txs (a.tx ∷ []) a.rest);
      goes_on = (λ _ later. same_given start base given later ∙ s.goes_on l.1 later
          ∙ ap (λ r. end_behind old.shadow.last old.shadow.namespace r later) a.was
          ∙ behind_applied old.shadow.last old.shadow.namespace a.tx a.rest later (ap (λ n. refusal n a.tx.edit) s.shadow.namespace ∙ not_refused start base s.txs a.tx by.stands.log)
          ∙ (λ j. end_behind (sym (applied_last old.shadow a.shown a.tx a.applied) j) (sym (applied_namespace old.shadow a.shown a.tx a.applied) j) a.rest later));
      stops = (λ m q. not_stopped old.stop m l.1 q);
      ended = λ q. not_begun old l (sym (ap (λ z. z.active) a.applied.phase) ∙ q);
    })

-- it shows what it showed, whatever else is marked
pub still_stands : (past : History) (start : Namespace) (base : ℕ) (txs : List Tx) (lanes : Lanes) (x y : Shadow) → ShowsSame x y → Stands start base txs lanes (standby_of (shadow_with_past past x)) → Stands start base txs lanes (standby_of (shadow_with_past past y))
still_stands past start base txs lanes x y q h = subst (λ z. Stands start base txs lanes (with_past past z)) (sym q.standby) h

pub still_before : (past : History) (x y : Shadow) → ShowsSame x y → IsBeforeFlush (past ++ x.history) → IsBeforeFlush (past ++ y.history)
still_before past x y q h = subst (λ (z : StandbyState). IsBeforeFlush (past ++ z.history)) (sym q.standby) h

pub carries_stop : (old new : Standby) (m : Stop) → IsLive old → StopsAt old m new → Carries old [] new
carries_stop old new m l a = subst (λ z. Carries old [] z) (sym a.now) (λ past start base given s. record {
  txs = s.txs;
  shadow = still_stands past start base s.txs (lanes_of old) old.shadow a.shown a.same s.shadow;
  before_flush = λ _. still_before past old.shadow a.shown a.same (s.before_flush l.2);
  log = same_log base given (s.txs ++ old.rest) s.log;
  goes_on = (λ q. absurd (let e : Some m ≡ None = q in cc));
  stops = (λ z q. let e : m ≡ z = cc in subst (λ w. StopsLog start base (given ++ []) w) e (
      λ later. same_given start base given later ∙ s.goes_on l.1 later
      ∙ ap (λ r. end_behind old.shadow.last old.shadow.namespace r later) a.was
      ∙ behind_refused old.shadow.last old.shadow.namespace a.tx a.rest later a.fault a.refused
      ∙ (λ j. Err (record { cause = log_cause (sym a.cause j); txid = sym a.is_txid j }))
      ));
  ended = λ q. not_begun old l (sym a.active ∙ q);
})

pub carries_unchanged : (old new : Standby) → IsLive old → IsAsBefore old new → Carries old [] new
carries_unchanged old new l a = subst (λ z. Carries old [] z) (sym a.now) (λ past start base given s. record {
  txs = s.txs;
  shadow = still_stands past start base s.txs (lanes_of old) old.shadow a.shown a.same s.shadow;
  before_flush = λ _. still_before past old.shadow a.shown a.same (s.before_flush l.2);
  log = same_log base given (s.txs ++ old.rest) s.log;
  goes_on = (λ _ later. same_given start base given later ∙ s.goes_on l.1 later ∙ same_way old (with_shadow old a.shown) later (same_last old.shadow a.shown a.same) (same_namespace old.shadow a.shown a.same) refl);
  stops = (λ m q. not_stopped old.stop m l.1 q);
  ended = λ q. not_begun old l (sym (ap (λ z. z.active) a.phase) ∙ q);
})

pub carries_fetch : (old : Standby) (i : ℕ) (e : LaneEnd) (k : Option Message) → IsLive old → handed_all (with_lane old i e k).ends (with_lane old i e k).undelivered ≡ handed_all old.ends old.undelivered → Carries old [] (with_lane old i e k)
carries_fetch old i e k l same past start base given s = record {
  txs = s.txs;
  shadow = subst (λ z. Stands start base s.txs z (standby_of (shadow_with_past past old.shadow))) (sym (ap by_node same)) s.shadow;
  before_flush = s.before_flush;
  log = same_log base given (s.txs ++ old.rest) s.log;
  goes_on = (λ _ later. same_given start base given later ∙ s.goes_on l.1 later);
  stops = (λ m q. not_stopped old.stop m l.1 q);
  ended = not_begun old l;
}

pub carries_handed : (old new : Standby) (i : ℕ) (m : Message) (d : LaneEnd) → IsLive old → Keeps old → i < length old.ends → undelivered_at old i ≡ Some m → HandsUndelivered old i m new → Carries old [] new
carries_handed old new i m d l k within e h = subst (λ z. Carries old [] z) (sym h.now) (λ past start base given s.
    let by = h.handed.stands past start base s.txs (lanes_of old) (stands_live start base given (standby_with_past past old) l s) in record {
      txs = s.txs;
      shadow = subst (λ z. Stands start base s.txs z (standby_of (shadow_with_past past h.shown))) (sym (lanes_grow old i m d h.shown k within e)) by.stands;
      before_flush = λ _. by.before_flush;
      log = same_log base given (s.txs ++ old.rest) s.log;
      goes_on = (λ _ later. same_given start base given later ∙ s.goes_on l.1 later ∙ same_way old (with_shadow (with_undelivered old i None) h.shown) later (handed_last old.shadow h.shown m h.handed) (handed_namespace old.shadow h.shown m h.handed) refl);
      stops = (λ z q. not_stopped old.stop z l.1 q);
      ended = λ q. not_begun old l (sym (ap (λ z. z.active) h.handed.phase) ∙ q);
    })
