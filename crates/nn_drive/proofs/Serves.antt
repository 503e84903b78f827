-- From the steps of a standby in service to what `serve` says.
use Rattle.std.specs.Prelude.{count_by}
use Rattle.std.specs.List.{All, AllZip, list_all}
use Rattle.std.specs.declared.thread.PromisedHandle.{PromisedHandle}
use Rattle.std.proofs.Common.{◌≡◌, ℕ, zero, suc, ◌<◌, ◌≤◌, ◌&&◌, Bool, true, false, List, [], ◌∷◌, ◌++◌, Option, length, map, get_or, refl, sym, ap, ◌∙◌, subst, arith, append-nil, inl, inr}
use Rattle.std.proofs.lemmas.List.{length-map}
use Rattle.nn_types.specs.declared.report.Message.{Message}
use Rattle.nn_feed.specs.Ends.{got_by, GivesWhatIsFed}
use Rattle.nn_feed.specs.Feeds.{has_last, answers_of}
use Rattle.nn_feed.specs.Running.{then_last}
use Rattle.nn_feed.specs.declared.ends.FeedEnd.{FeedEnd}
use Rattle.nn_feed.proofs.Feeds.{one_last}
use Rattle.nn_lane.specs.Ends.{Reporter, LaneEnd, lane_of, got_of}
use Rattle.nn_model.specs.History.{History, is_flush}
use Rattle.nn_model.specs.Items.{items}
use Rattle.nn_model.specs.Lawful.{IsWhole}
use Rattle.nn_model.specs.Namespace.{Namespace}
use Rattle.nn_model.specs.Stands.{Stands}
use Rattle.nn_segment.specs.LogEnd.{end_of_log, given_in}
use Rattle.nn_segment.specs.Source.{Answer, Asked, given, end}
use Rattle.nn_segment.proofs.Asks.{asked_append}
use Rattle.nn_shadow.specs.Contents.{Shadow, standby_of, KeepsSettings}
use Rattle.nn_lane_standby.specs.LaneSteps.{SameEnds, CloseEnds, AllClosed, is_closed_lane}
use Rattle.nn_lane_standby.specs.Promotion.{Promoted, IsPromoted}
use Rattle.nn_lane_standby.specs.Tailing.{has_begun, Standby, standby_with_past, Carries, AllTaken, EndsInEnd, by_node, with_ends}
use Rattle.nn_lane_standby.specs.declared.standby.Active.{Active}
use Rattle.nn_lane_standby.proofs.Carried.{carries_same, carries_then}
use Rattle.nn_lane_standby.proofs.Drained.{still_closed}
use Rattle.nn_lane_standby.proofs.LaneSteps.{ends_same}
use Rattle.nn_lane_standby.proofs.Logs.{ends_behind}
use Rattle.nn_lane_standby.proofs.Shadowing.{settings_same, settings_then}
use Rattle.nn_drive.specs.Driven.{HaveReporters, ArePromised, Goes, Stayed, PromotesAtEnd, WentUntil}
use Rattle.nn_drive.specs.Feeding.{failures_of, HasAnswered, FailsOver, IsKnown}
use Rattle.nn_drive.specs.Served.{end_of, handle_of, ArePaired, PromotesOver, IsServed, ComesBack}
use Rattle.nn_drive.specs.Serving.{Shown, forgotten, WasShown, WasRequested, RequestsAt, IsDry, IsOf, IsPromotedAt, IsPromotedFrom}
use Rattle.nn_drive.specs.declared.driving.DriveFault.{DriveFault}
use Rattle.nn_drive.specs.declared.driving.WorkerPromise.{WorkerPromise}
use Rattle.nn_drive.specs.declared.driving.WorkerExit.{WorkerExit}
use Rattle.nn_drive.specs.declared.operator.Request.{Request}
use Rattle.nn_drive.specs.declared.serving.Served.{Served}
use Rattle.nn_lane_standby.specs.Shadows.{shadow_with_past}
use Rattle.nn_drive.proofs.Kept.{settings_with, settings_of, carries_after, promotes_after, promotes_then, until_after}
use Rattle.nn_drive.proofs.InTurn.{none_shown, shown_to_more, requests_of_more}
use Rattle.nn_drive.proofs.Drives.{some_of, taken_at}
use Rattle.nn_drive.proofs.Fed.{same_log, same_behind, given_alike, ends_alike, fails_over, got_none}
use Rattle.nn_drive.proofs.Meets.{zip_of}
use Rattle.nn_drive.proofs.Steps.{until_then}

-- ---- The lanes.

pub lanes_same : (es es' : List LaneEnd) → SameEnds es es' → map lane_of es' ≡ map lane_of es
lanes_same [] [] s = refl
lanes_same [] (e ∷ es) s = absurd s
lanes_same (e ∷ es) [] s = absurd s
lanes_same (e ∷ es) (e' ∷ es') s = let more = lanes_same es es' s.1 in λ j. s.0.0 j ∷ more j

lanes_closed : (es es' : List LaneEnd) → CloseEnds es es' → map lane_of es' ≡ map lane_of es
lanes_closed [] [] s = refl
lanes_closed [] (e ∷ es) s = absurd s
lanes_closed (e ∷ es) [] s = absurd s
lanes_closed (e ∷ es) (e' ∷ es') s = let more = lanes_closed es es' s.1 in λ j. s.0.0 j ∷ more j

both_true : (a b : Bool) → (a && b) ≡ true → (a ≡ true) × (b ≡ true)
both_true true b h = (refl, h)
both_true false b h = absurd (let e : false ≡ true = h in cc)

closed_at : (es : List LaneEnd) (i : ℕ) (d : LaneEnd) → i < length es → AllClosed es → (get_or es i d).closed ≡ true
closed_at [] i d l c = absurd (omega (arith, l))
closed_at (e ∷ es) zero d l c = (both_true (is_closed_lane e) (list_all is_closed_lane es) c).0
closed_at (e ∷ es) (suc i) d l c = closed_at es i d (omega (arith, l)) (both_true (is_closed_lane e) (list_all is_closed_lane es) c).1

pub map_at : {A B : Type 0} (f : A → B) (xs : List A) (i : ℕ) (d : A) → get_or (map f xs) i (f d) ≡ f (get_or xs i d)
map_at f [] i d = refl
map_at f (x ∷ xs) zero d = refl
map_at f (x ∷ xs) (suc i) d = map_at f xs i d

-- lanes of which all was taken are dry
all_dry : (es : List LaneEnd) (ks : List (Option Message)) → AllTaken es ks → All IsDry es
all_dry es ks t = λ k d l. taken_at es ks k d l t

-- as many as the workers are promised
as_many : {S : Type 0} (workers : List (S × Reporter)) (handles : List (PromisedHandle (WorkerExit S) (WorkerPromise S))) → ArePromised workers handles → length workers ≤ length handles → length handles ≡ length workers
as_many workers handles p all = omega (arith, p.0, all)

module _ {S : Type 0} (workers : List (S × Reporter)) (handles : List (PromisedHandle (WorkerExit S) (WorkerPromise S))) (promised : ArePromised workers handles) (all : length workers ≤ length handles)
    (old new : List LaneEnd) (lanes : HaveReporters workers old) (same : map lane_of new ≡ map lane_of old) (closed : AllClosed new) where
  -- each end is closed, and of the lane of its worker's thread
  pub are_of : AllZip IsOf new handles
  are_of =
      let size : length new ≡ length workers = sym (length-map new lane_of) ∙ ap length same ∙ length-map old lane_of ∙ lanes.0 in
      zip_of IsOf new handles (omega (arith, size, promised.0, all)) (λ i e h l.
      let below : i < length workers = omega (arith, l, size) in
      let within : i < length handles = omega (arith, below, all) in
      let w = some_of workers i below in
      let p = promised.1 i w h within in
      let lane = sym (map_at lane_of new i e) ∙ ap (λ ls. get_or ls i (lane_of e)) same ∙ map_at lane_of old i e in
      (lane ∙ lanes.1 i w e below ∙ ap (λ z. z.lane) (sym p.1), closed_at new i e l closed))

-- ---- From the rotation to the promotion, or to a fault.

module _ {O R : Type 0} (asks : O → Standby → ℕ → Request → O → Type 0) (started workers : ℕ) (few : started ≤ workers) (x0 : Standby) (e0 : FeedEnd R) (o p : O) where
  -- it was not begun
  pub comes_back_before : o ≡ p → ComesBack asks workers x0 e0 o x0 e0 p
  comes_back_before same = record {
    answers = [];
    asked = refl;
    shown = [];
    goes = record { carries = carries_same x0; lanes = refl; settings = settings_same x0.shadow };
    intake = inl (ends_same x0.ends, refl, subst (λ z. WasShown asks workers x0 o [] [] x0 z) same (none_shown asks workers x0 o));
    not_promoted = refl;
  }

  module _ (x1 : Standby) (e1 : FeedEnd R) (shown : List Shown) (a1 : List Answer) (asked1 : Asked GivesWhatIsFed e0 a1 e1) (goes : Goes x0 a1 (standby_with_past (forgotten shown) x1)) where
    -- a rotation failed
    pub comes_back_open : WasShown asks started x0 o shown a1 x1 p → ComesBack asks workers x0 e0 o x1 e1 p
    comes_back_open was = record {
      answers = a1;
      asked = asked1;
      shown = shown;
      goes = record { carries = goes.carries; lanes = lanes_same x0.ends x1.ends goes.same_ends; settings = goes.settings };
      intake = inl (goes.same_ends, goes.begun, shown_to_more asks started workers x0 o p shown a1 x1 few was);
      not_promoted = goes.active;
    }

    -- a promotion was requested, and the lanes were closed
    module _ (requests : RequestsAt asks started x0 o shown a1 x1 p) (x2 x3 : Standby) (e2 : FeedEnd R) (closes : CloseEnds x1.ends x2.ends) (closed : AllClosed x2.ends) (rest : x2 ≡ with_ends x1 x2.ends) (carries : Carries x1 [] x2) where
      abbrev heard : History
      heard = forgotten shown

      carried : Carries x0 a1 (standby_with_past heard x2)
      carried = subst (λ rs. Carries x0 rs (standby_with_past heard x2)) (append-nil a1) (carries_then x0 (standby_with_past heard x1) (standby_with_past heard x2) a1 [] goes.carries (carries_after heard x1 x2 [] carries))

      lanes : map lane_of x2.ends ≡ map lane_of x0.ends
      lanes = lanes_closed x1.ends x2.ends closes ∙ lanes_same x0.ends x1.ends goes.same_ends

      settings : KeepsSettings x0.shadow x2.shadow
      settings = settings_of heard x0.shadow x2.shadow (subst (λ z. KeepsSettings x0.shadow (shadow_with_past heard z)) (sym (ap (λ z. z.shadow) rest)) goes.settings)

      requested : (a2 : List Answer) (Follows : Standby → List Answer → Type 0) → Follows (standby_with_past heard x1) a2 → WasRequested asks workers x0 o shown (a1 ++ a2) p Follows
      requested a2 Follows f = record {
        at = x1;
        before = a1;
        since = a2;
        are = refl;
        lanes = goes.same_ends;
        begun = goes.begun;
        requests = requests_of_more asks started workers x0 o p shown a1 x1 few requests;
        follows = f;
      }

      pub comes_back_closed : Stayed GivesWhatIsFed e1 x2 e2 x3 → ComesBack asks workers x0 e0 o x3 e2 p
      comes_back_closed s =
          let on = carries_after heard x2 x3 s.0 s.2.carries in record {
            answers = a1 ++ s.0;
            asked = asked_append GivesWhatIsFed e0 e1 e2 a1 s.0 asked1 s.1;
            shown = shown;
            goes = record {
              carries = carries_then x0 (standby_with_past heard x2) (standby_with_past heard x3) a1 s.0 carried on;
              lanes = lanes_same x2.ends x3.ends s.2.same_ends ∙ lanes;
              settings = settings_with heard x0.shadow x3.shadow (settings_then x0.shadow x2.shadow x3.shadow settings s.2.settings);
            };
            intake = inr (
              (still_closed x2.ends x3.ends s.2.same_ends closed).0,
              requested s.0 (λ last since. Carries last since (standby_with_past heard x3)) (carries_then (standby_with_past heard x1) (standby_with_past heard x2) (standby_with_past heard x3) [] s.0 (carries_after heard x1 x2 [] carries) on),
            );
            not_promoted = s.2.active ∙ ap (λ z. z.active) rest ∙ goes.active;
          }

      pub fails_closed : (f g : DriveFault) → has_begun x0 ≡ false → failures_of e0 ≤ failures_of e1 → WentUntil GivesWhatIsFed failures_of e1 x2 e2 f → IsKnown f (has_last (got_by e2)) g → FailsOver x0 e0 e2 g
      fails_closed f g serving not_fewer h known =
          let begun : has_begun x2 ≡ false = ap has_begun rest ∙ goes.begun ∙ serving in
          fails_over x0 e0 e2 e2 failures_of f g serving (until_then GivesWhatIsFed failures_of e0 e1 e2 x0 (standby_with_past heard x2) a1 f asked1 carried begun not_fewer (until_after GivesWhatIsFed failures_of heard e1 e2 x2 f h)) known (got_none (got_by e2))

      pub promotes_over : (active : Active) → PromotesAtEnd GivesWhatIsFed failures_of e1 x2 e2 active x3 → PromotesOver asks workers x0 e0 o active x3 e2 p
      promotes_over active e =
          let promotes = promotes_after heard x2 x3 e.0 e.4 in record {
            answers = a1 ++ e.0;
            asked = asked_append GivesWhatIsFed e0 e1 e2 a1 e.0 asked1 e.1;
            ended = ends_behind a1 e.0 e.7;
            last = e.3.0;
            flushed = e.3.1;
            settings = settings_then x0.shadow x2.shadow x3.shadow settings e.6;
            shown = shown;
            requested = requested e.0 (λ last since. IsPromoted last since (standby_with_past heard x3)) (promotes_then (standby_with_past heard x1) (standby_with_past heard x2) (standby_with_past heard x3) [] e.0 (carries_after heard x1 x2 [] carries) promotes);
            lanes = lanes_same x2.ends x3.ends e.2 ∙ lanes;
            closed = (still_closed x2.ends x3.ends e.2 closed).0;
            promoted = promotes_then x0 (standby_with_past heard x2) (standby_with_past heard x3) a1 e.0 carried promotes;
          }

-- ---- From the end of a feed to its source.

module _ (answers others : List Answer) (same : given_in others ≡ given_in answers) (ended : EndsInEnd others) where
  promoted_at_same : (start : Namespace) (base : ℕ) (before : List Answer) (ends : List LaneEnd) (x : Shadow)
      → IsPromotedAt start base (before ++ answers) ends x → IsPromotedAt start base (before ++ others) ends x
  promoted_at_same start base before ends x p = record {
    stands = subst (λ l. Stands start base l (by_node (map got_of ends)) (standby_of x)) (same_log answers others same ended base before) p.stands;
    whole = subst (λ l. IsWhole start l (items (by_node (map got_of ends))) x.history) (same_log answers others same ended base before) p.whole;
    picture = p.picture;
    none_held = p.none_held;
    ended = ends_behind before others ended;
    log_end = ap (λ l. end_of_log base start l) (same_behind answers others same ended before) ∙ p.log_end;
    dry = p.dry;
  }

promoted_at : (start : Namespace) (base : ℕ) (given : List Answer) (y : Standby) (ends : List LaneEnd) (x : Shadow) → ends ≡ y.ends → x ≡ y.shadow → Promoted start base given y → IsPromotedAt start base given ends x
promoted_at start base given y ends x e s p =
    subst (λ (es : List LaneEnd). IsPromotedAt start base given es x) (sym e)
    (subst (λ (z : Shadow). IsPromotedAt start base given y.ends z) (sym s)
    (record { stands = p.stands; whole = p.whole; picture = p.picture; none_held = p.none_held; ended = p.ended; log_end = p.log_end; dry = all_dry y.ends y.undelivered p.taken }))

promoted_from : (heard : History) (x : Standby) (rs : List Answer) (y : Standby) (ends : List LaneEnd) (z : Shadow) → ends ≡ y.ends → z ≡ y.shadow → IsPromoted x rs (standby_with_past heard y) → IsPromotedFrom x rs ends (shadow_with_past heard z)
promoted_from heard x rs y ends z e q h past start base before at =
    promoted_at start base (before ++ rs) (standby_with_past past (standby_with_past heard y)) ends (shadow_with_past past (shadow_with_past heard z)) e (ap (λ s. shadow_with_past past (shadow_with_past heard s)) q) (h past start base before at)

module _ {T R S O : Type 0} (asks : O → Standby → ℕ → Request → O → Type 0) (gives : T → Answer → T → Type 0) (failures : T → ℕ) (x : Standby) (s : T) (workers : List (S × Reporter)) (o p : O) (e0 e2 : FeedEnd R) (new : got_by e0 ≡ [])
    (met : Bool) (is_met : met ≡ true) (h : HasAnswered gives failures s (got_by e2) met) (active : Active) (y : Standby) (d : PromotesOver asks (length workers) x e0 o active y e2 p) where
  pub served : (handles : List (PromisedHandle (WorkerExit S) (WorkerPromise S))) → ArePromised workers handles → length workers ≤ length handles
      → (r : Served S) → r.active ≡ active → r.shadow ≡ y.shadow → (ends : List LaneEnd) → ends ≡ y.ends → ArePaired ends handles r.workers.items → IsServed asks gives failures x s workers o p r
  served handles promised all r a q ends e paired =
      let k = h.3 is_met in
      let answers = answers_of (got_by e2) ++ k.more in
      let alike = given_alike gives failures s h.0 e0 e2 new d.answers d.asked k d.ended in
      let ended = ends_alike gives failures s h.0 e0 e2 new d.answers d.asked k d.ended in
      let is : k.last ≡ end = one_last (then_last k.segments k.last) k.last end (map given k.segments, refl) (ended.0, sym k.are ∙ ended.1) in
      let many : length r.workers.items ≡ length workers = sym (length-map r.workers.items handle_of) ∙ ap length paired.1 ∙ as_many workers handles promised all in
      record {
        answers = answers;
        after = h.0;
        asked = k.asked;
        not_fewer = h.2;
        segments = k.segments;
        are = k.are ∙ ap (then_last k.segments) is;
        last = ap (λ (z : Active). z.last) a ∙ d.last ∙ ap (λ (z : Shadow). z.last) (sym q);
        flushed = ap (λ (z : Active). z.flushed) a ∙ d.flushed ∙ ap (λ (z : Shadow). count_by is_flush z.history) (sym q);
        settings = subst (λ (z : Shadow). KeepsSettings x.shadow z) (sym q) d.settings;
        shown = d.shown;
        fed = d.answers;
        same = alike;
        requested = record {
          at = d.requested.at;
          before = d.requested.before;
          since = d.requested.since;
          are = d.requested.are;
          lanes = d.requested.lanes;
          begun = d.requested.begun;
          requests = d.requested.requests;
          follows = promoted_from (forgotten d.shown) (standby_with_past (forgotten d.shown) d.requested.at) d.requested.since y (map end_of r.workers.items) r.shadow (paired.0 ∙ e) q d.requested.follows;
        };
        run = (many, subst (λ hs. ArePromised workers hs) (sym paired.1) promised);
        promoted = λ past start base before at.
            promoted_at_same d.answers answers alike ended start base before (map end_of r.workers.items) (shadow_with_past past (shadow_with_past (forgotten d.shown) r.shadow))
            (promoted_from (forgotten d.shown) x d.answers y (map end_of r.workers.items) r.shadow (paired.0 ∙ e) q d.promoted past start base before at);
      }
