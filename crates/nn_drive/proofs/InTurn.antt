-- What an operator is shown, in turn, while its standby goes on; and what it requested is done.
use Rattle.std.specs.Prelude.{◌≢◌, true}
use Rattle.std.proofs.Common.{◌≡◌, ℕ, ◌≤◌, List, [], ◌∷◌, ◌++◌, refl, sym, ap, ◌∙◌, subst, arith, append_assoc, append-nil}
use Rattle.nn_feed.specs.Ends.{GivesWhatIsFed}
use Rattle.nn_feed.specs.declared.ends.FeedEnd.{FeedEnd}
use Rattle.nn_model.specs.History.{History}
use Rattle.nn_segment.specs.Source.{Answer}
use Rattle.nn_segment.proofs.Asks.{asked_append}
use Rattle.nn_lane_standby.specs.Tailing.{Standby, standby_with_past}
use Rattle.nn_drive.specs.Driven.{Goes, Went}
use Rattle.nn_drive.specs.Feeding.{failures_of}
use Rattle.nn_drive.specs.Rounds.{IsRound}
use Rattle.nn_drive.specs.Served.{Rotates}
use Rattle.nn_drive.specs.Serving.{KeepsNamespace, Shown, forgotten, forgotten_by, answered, last_shown, left_by_request, left_of, holds, IsNextShown, AreShownInTurn, AskedInTurn, WasShown, RequestsAt}
use Rattle.nn_drive.specs.declared.operator.Request.{Request}
use Rattle.nn_drive.specs.declared.operator.Request.TheVariants.{GoOn, Forget, Hold, ForgetAndHold, Promote}
use Rattle.nn_drive.proofs.Kept.{goes_after}
use Rattle.nn_drive.proofs.Steps.{goes_nowhere, goes_then}

-- as many workers at most, where there are more of them
pub more_workers : (n m : ℕ) (old : Standby) (shown : List Shown) → n ≤ m → AreShownInTurn n old shown → AreShownInTurn m old shown
more_workers n m old [] l h = tt
more_workers n m old (x ∷ shown) l h = (more_workers n m old shown l h.0, h.1, h.2, omega (arith, l, h.3))

module _ {O : Type 0} (asks : O → Standby → ℕ → Request → O → Type 0) where
  pub shown_to_more : (n m : ℕ) (old : Standby) (o p : O) (shown : List Shown) (answers : List Answer) (x : Standby) → n ≤ m → WasShown asks n old o shown answers x p → WasShown asks m old o shown answers x p
  shown_to_more n m old o p shown answers x l h = record { goes_on = h.goes_on; in_turn = more_workers n m old shown l h.in_turn; since = h.since; are = h.are; goes = h.goes }

  pub requests_of_more : (n m : ℕ) (old : Standby) (o p : O) (shown : List Shown) (answers : List Answer) (x : Standby) → n ≤ m → RequestsAt asks n old o shown answers x p → RequestsAt asks m old o shown answers x p
  requests_of_more n m old o p shown answers x l h = (h.0, h.1, omega (arith, l, h.2), h.3, shown_to_more n m old o h.0 shown answers x l h.4, h.5)

  -- it was shown nothing yet
  pub none_shown : (n : ℕ) (x : Standby) (o : O) → WasShown asks n x o [] [] x o
  none_shown n x o = record { goes_on = refl; in_turn = tt; since = []; are = refl; goes = goes_nowhere x }

  -- it was shown all but this standby
  abbrev pub IsShownNext : ℕ → Standby → O → Standby → O → List Shown → List Answer → Type 0
  IsShownNext workers old o x q shown answers = IsNextShown old shown x × WasShown asks workers old o shown answers x q

  -- the standby is what was left of the last that it was shown
  abbrev IsLeft : Request → List Shown → Standby → Type 0
  IsLeft w [] y = ⊥
  IsLeft w (last ∷ shown) y = (y ≡ left_of last) × (last.request ≡ w)

  abbrev WasAsked : ℕ → Standby → O → Request → Standby → O → List Shown → List Answer → Type 0
  WasAsked workers old o w y p shown answers = IsLeft w shown y × WasShown asks workers old o shown answers y p

  pub rotates_none : {T : Type 0} (gives : T → Answer → T → Type 0) (failures : T → ℕ) (workers : ℕ) (s : T) (x : Standby) (o : O) → Rotates gives failures s x s x (IsShownNext workers x o x o)
  rotates_none gives failures workers s x o = record { shown = []; went = ([], refl, goes_nowhere x, omega arith); was = (refl, none_shown workers x o) }

  module _ {T : Type 0} (gives : T → Answer → T → Type 0) (failures : T → ℕ) (workers : ℕ) (s t : T) (old x : Standby) (o q p : O) where
    -- it was asked about the standby, and left this
    asked_once : (y : Standby) (running : ℕ) (w : Request) → running ≤ workers → (w ≢ Promote) → asks q x running w p
        → y ≡ left_by_request w x → ((past : History) → standby_with_past (past ++ forgotten_by w x.shadow.history) y ≡ standby_with_past past x)
        → Rotates gives failures s old t x (IsShownNext workers old o x q) → Rotates gives failures s old t y (WasAsked workers old o w y p)
    asked_once y running w few other a left e r =
        let was = r.was.1 in
        let one : Shown = record { answers = was.since; standby = x; running = running; request = w } in
        let same = sym (e (forgotten r.shown)) in record {
          shown = one ∷ r.shown;
          went = (r.went.0, r.went.1, subst (λ z. Goes old r.went.0 z) same r.went.2, r.went.3);
          was = (
            (left, refl),
            record {
              goes_on = (q, was.goes_on, other, a);
              in_turn = (was.in_turn, r.was.0, was.goes, few);
              since = [];
              are = was.are ∙ sym (append-nil (answered r.shown ++ was.since));
              goes = subst (λ z. Goes (standby_with_past (forgotten r.shown) x) [] z) same (goes_nowhere (standby_with_past (forgotten r.shown) x));
            },
          );
        }

    -- what it requested was done
    pub obeys : (y : Standby) (running : ℕ) → running ≤ workers → (w : Request) → (w ≡ Promote → ⊥) → asks q x running w p → y ≡ left_by_request w x
        → Rotates gives failures s old t x (IsShownNext workers old o x q) → Rotates gives failures s old t y (WasAsked workers old o w y p)
    obeys y running few GoOn other a left r = asked_once y running GoOn few other a left (λ past. ap (λ (h : History). standby_with_past h y) (append-nil past) ∙ ap (standby_with_past past) left) r
    obeys y running few Hold other a left r = asked_once y running Hold few other a left (λ past. ap (λ (h : History). standby_with_past h y) (append-nil past) ∙ ap (standby_with_past past) left) r
    obeys y running few Forget other a left r =
        asked_once y running Forget few other a left (λ past. ap (standby_with_past (past ++ x.shadow.history)) left ∙ ap (λ (h : History). record x { shadow = record x.shadow { history = h } }) (append-nil (past ++ x.shadow.history))) r
    obeys y running few ForgetAndHold other a left r =
        asked_once y running ForgetAndHold few other a left (λ past. ap (standby_with_past (past ++ x.shadow.history)) left ∙ ap (λ (h : History). record x { shadow = record x.shadow { history = h } }) (append-nil (past ++ x.shadow.history))) r
    obeys y running few Promote other a left r = absurd (other refl)

    -- it requested a promotion
    pub requests_now : (running : ℕ) → running ≤ workers → (w : Request) → w ≡ Promote → asks q x running w p
        → Rotates gives failures s old t x (IsShownNext workers old o x q) → Rotates gives failures s old t x (λ shown answers. RequestsAt asks workers old o shown answers x p)
    requests_now running few w e a r = record {
      shown = r.shown;
      went = r.went;
      was = (q, running, few, r.was.0, r.was.1, subst (λ (z : Request). asks q x running z p) e a);
    }

  module _ {T : Type 0} (gives : T → Answer → T → Type 0) (failures : T → ℕ) (workers : ℕ) (s t u : T) (old y z : Standby) (o p : O) (request : Request)
      (r : Rotates gives failures s old t y (WasAsked workers old o request y p)) (w : Went gives failures t y u z) where
    abbrev went_round : Went gives failures s old u (standby_with_past (forgotten r.shown) z)
    went_round = (
      r.went.0 ++ w.0,
      asked_append gives s t u r.went.0 w.0 r.went.1 w.1,
      goes_then old (standby_with_past (forgotten r.shown) y) (standby_with_past (forgotten r.shown) z) r.went.0 w.0 r.went.2 (goes_after (forgotten r.shown) y z w.0 w.2),
      omega (arith, r.went.3, w.3),
    )

    shown_round : WasShown asks workers old o r.shown (r.went.0 ++ w.0) z p
    shown_round = let was = r.was.1 in record {
      goes_on = was.goes_on;
      in_turn = was.in_turn;
      since = was.since ++ w.0;
      are = ap (λ rs. rs ++ w.0) was.are ∙ append_assoc (answered r.shown) was.since w.0;
      goes = goes_then (last_shown old r.shown) (standby_with_past (forgotten r.shown) y) (standby_with_past (forgotten r.shown) z) was.since w.0 was.goes (goes_after (forgotten r.shown) y z w.0 w.2);
    }

    -- a rotation failed
    pub goes_round : Rotates gives failures s old u z (λ shown answers. WasShown asks workers old o shown answers z p)
    goes_round = record { shown = r.shown; went = went_round; was = shown_round }

    -- what is forgotten of a history is no part of a namespace
    keeps_left : (w : Request) (x v : Standby) → KeepsNamespace (left_by_request w x) v → KeepsNamespace x v
    keeps_left GoOn x v k = k
    keeps_left Forget x v k = record { namespace = k.namespace; last = k.last }
    keeps_left Hold x v k = k
    keeps_left ForgetAndHold x v k = record { namespace = k.namespace; last = k.last }
    keeps_left Promote x v k = k

    is_next : (shown : List Shown) → IsLeft request shown y → IsRound y z → (holds request ≡ true → KeepsNamespace y z) → IsNextShown old shown z
    is_next [] left round held = absurd left
    is_next (last ∷ shown) left round held = (
      subst (λ v. IsRound v z) left.0 round,
      λ hold. keeps_left last.request last.standby z (subst (λ v. KeepsNamespace v z) left.0 (held (ap holds (sym left.1) ∙ hold))),
    )

    -- a rotation more
    pub next_round : IsRound y z → (holds request ≡ true → KeepsNamespace y z) → Rotates gives failures s old u z (IsShownNext workers old o z p)
    next_round round held = record { shown = r.shown; went = went_round; was = (is_next r.shown r.was.0 round held, shown_round) }

-- ---- An operator that never requests that a history be forgotten.

-- what `Unattended` is asked
abbrev pub Unasked : {O : Type 0} → O → Standby → ℕ → Request → O → Type 0
Unasked o x n w p = (w ≡ Promote → n ≡ 0) × (n ≡ 0 → w ≡ Promote) × (w ≢ Promote → w ≡ GoOn)

none_forgotten : {O : Type 0} (o p : O) (shown : List Shown) → AskedInTurn Unasked o shown p → forgotten shown ≡ []
none_forgotten o p [] h = refl
none_forgotten o p (x ∷ shown) h =
    ap (λ w. forgotten shown ++ forgotten_by w x.standby.shadow.history) (h.3.2 h.2) ∙ append-nil (forgotten shown) ∙ none_forgotten o h.0 shown h.1

-- its standby keeps the whole history
pub went_whole : {O R : Type 0} (workers : ℕ) (s t : FeedEnd R) (x y : Standby) (o p : O)
    → Rotates GivesWhatIsFed failures_of s x t y (λ shown answers. RequestsAt Unasked workers x o shown answers y p) → Went GivesWhatIsFed failures_of s x t y
went_whole workers s t x y o p r = subst (λ h. Went GivesWhatIsFed failures_of s x t (standby_with_past h y)) (none_forgotten o r.was.0 r.shown r.was.4.goes_on) r.went
