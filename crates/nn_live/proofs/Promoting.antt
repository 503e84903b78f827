-- A promotion of the code is one of the definition's service.
use Rattle.std.proofs.Common.{◌≡◌, ℕ, ◌+◌, Bool, List, [], ◌++◌, cond, true, false, not, ◌||◌, None, Some, Option, codes, sym, subst, ap, ap₂, ◌∙◌, refl, ltb, max, append-nil}
use Rattle.std.specs.Prelude.{◌==◌}
use Rattle.nn_listing.specs.Trail.{history_text}
use Rattle.nn_types.specs.declared.fault.TheConstants.{NO_END, DISORDER, STALE_EPOCH, STOPPED}
use Rattle.nn_model.specs.Stands.{StandbyState}
use Rattle.nn_scenario.specs.Cut.{no_lines}
use Rattle.nn_shadow.specs.declared.fault.Stop.{Stop}
use Rattle.nn_shadow.specs.declared.fault.FlushFault.{FlushFault}
use Rattle.nn_shadow.specs.declared.fault.FlushFault.TheVariants as flush
use Rattle.nn_shadow.specs.Calls.{flushed}
use Rattle.nn_shadow.specs.Contents.{Shadow, KeepsSettings, standby_of, last_number_in}
use Rattle.nn_shadow.specs.Refusals.{Phase, flush_refusal}
use Rattle.nn_live.specs.Live.{LiveSetup, ServiceState, says, tells_fault, ends_at, becomes_active, names, promotes, sees}
use Rattle.nn_live.specs.Serving.{Service, SegmentInHand, HasPart, IsAtService, FollowsStep, forgetful, fault_text, in_epoch, log_ends, takes_promotion, takes_promotion_in}
use Rattle.nn_live.proofs.Handing.{told}
use Rattle.nn_live.proofs.Places.{asks_still, only_tells, same_makes, then_makes}
use Rattle.nn_live.proofs.Standing.{promotion}

module _ (x : Service) (txid : ℕ) (losing : Bool) where
  abbrev step : LiveSetup → ServiceState → ServiceState
  step = takes_promotion txid losing

  -- what a promotion comes to
  abbrev outcome : LiveSetup → ServiceState → Option FlushFault → Bool → Bool → ServiceState
  outcome asked s (Some fault) between ends = promotes asked txid losing (Some fault) s
  outcome asked s None between ends =
      cond (not (losing || between)) (tells_fault NO_END (codes " segment ") (s.segments + 1) s) (cond ends (becomes_active asked s) (tells_fault DISORDER (codes " txid ") (s.standby.last + 1) s))

  -- as the code sees it
  seen : (asked : LiveSetup) (s : ServiceState) → IsAtService asked x s
      → step asked s ≡ outcome asked s (flush_refusal x.shadow.phase) (x.in_hand.edits == 0) (log_ends x.shadow.last x.known txid losing)
  seen asked s i =
      ap (λ (p : Phase). promotes asked txid losing (flush_refusal p) s) (sym i.phase)
      ∙ cases (flush_refusal x.shadow.phase)
    where
      cases : (o : Option FlushFault) → promotes asked txid losing o s ≡ outcome asked s o (x.in_hand.edits == 0) (log_ends x.shadow.last x.known txid losing)
      cases (Some fault) = refl
      cases None =
          ap (λ k. outcome asked s None (k == 0) (ends_at txid losing s)) (sym i.in_hand.edits)
          ∙ ap₂ (λ (y : StandbyState) k. outcome asked s None (x.in_hand.edits == 0) (log_ends y.last k txid losing)) (sym i.standby) (sym i.known)

  pub stopped : (stop : Stop) → x.shadow.phase.stopped ≡ Some stop → FollowsStep step x x (fault_text STOPPED (codes " line ") x.lines)
  stopped stop e = only_tells step x _ (λ asked s i.
      (let refused : flush_refusal x.shadow.phase ≡ Some (flush.Stopped stop) = rw e refl in
      seen asked s i ∙ ap (λ o. outcome asked s o (x.in_hand.edits == 0) (log_ends x.shadow.last x.known txid losing)) refused
      ∙ ap (λ l. says (fault_text STOPPED (codes " line ") l) s) (sym i.lines)))

  module _ (e : x.shadow.phase.stopped ≡ None) where
    not_stopped : (asked : LiveSetup) (s : ServiceState) → IsAtService asked x s → step asked s ≡ outcome asked s None (x.in_hand.edits == 0) (log_ends x.shadow.last x.known txid losing)
    not_stopped asked s i =
        let none : flush_refusal x.shadow.phase ≡ None = rw e refl in
        seen asked s i ∙ ap (λ o. outcome asked s o (x.in_hand.edits == 0) (log_ends x.shadow.last x.known txid losing)) none

    pub inside : (losing || (x.in_hand.edits == 0)) ≡ false → FollowsStep step x x (fault_text NO_END (codes " segment ") (x.segments + 1))
    inside is = only_tells step x _ (λ asked s i.
        (not_stopped asked s i
        ∙ ap (λ b. cond (not b) (tells_fault NO_END (codes " segment ") (s.segments + 1) s) (cond (log_ends x.shadow.last x.known txid losing) (becomes_active asked s) (tells_fault DISORDER (codes " txid ") (s.standby.last + 1) s))) is
        ∙ ap (λ k. says (fault_text NO_END (codes " segment ") (k + 1)) s) (sym i.segments)))

    module _ (is : (losing || (x.in_hand.edits == 0)) ≡ true) where
      between : (asked : LiveSetup) (s : ServiceState) → IsAtService asked x s
          → step asked s ≡ cond (log_ends x.shadow.last x.known txid losing) (becomes_active asked s) (tells_fault DISORDER (codes " txid ") (s.standby.last + 1) s)
      between asked s i = not_stopped asked s i
          ∙ ap (λ b. cond (not b) (tells_fault NO_END (codes " segment ") (s.segments + 1) s) (cond (log_ends x.shadow.last x.known txid losing) (becomes_active asked s) (tells_fault DISORDER (codes " txid ") (s.standby.last + 1) s))) is

      pub not_there : log_ends x.shadow.last x.known txid losing ≡ false → FollowsStep step x x (fault_text DISORDER (codes " txid ") (x.shadow.last + 1))
      not_there isnt = only_tells step x _ (λ asked s i.
          (between asked s i ∙ ap (λ b. cond b (becomes_active asked s) (tells_fault DISORDER (codes " txid ") (s.standby.last + 1) s)) isnt
          ∙ ap (λ (y : StandbyState). says (fault_text DISORDER (codes " txid ") (y.last + 1)) s) (sym i.standby)))

      pub promoted : (z : Shadow) (h : SegmentInHand) → log_ends x.shadow.last x.known txid losing ≡ true
          → standby_of z ≡ flushed (standby_of x.shadow) → z.phase ≡ record x.shadow.phase { active = true } → z.numbers ≡ x.shadow.numbers → KeepsSettings x.shadow z → HasPart no_lines h
          → FollowsStep step x (forgetful (record x { shadow = z; in_hand = h; promoted = x.epoch })) (told x.history z)
      promoted z h ends done phase numbers settings none = record {
        at = λ asked s i. subst (IsAtService asked (forgetful (record x { shadow = z; in_hand = h; promoted = x.epoch }))) (sym (becomes asked s i)) (record {
          asks = asks_still asked x z settings i.asks;
          standby = ap (λ (c : StandbyState). record c { history = [] }) (comes asked s i);
          phase = phase ∙ ap (λ (p : Phase). record p { active = true }) i.phase;
          sent = λ dn. ap (λ (ns : List ℕ). last_number_in ns dn) numbers ∙ i.sent dn;
          in_hand = none;
          known = i.known;
          epoch = i.epoch;
          promoted = i.epoch;
          full = i.full;
          passed = i.passed;
          segments = i.segments;
          lines = i.lines;
          log = (i.log.0, i.log.1, promotion i.log.0 i.log.1 s.log s.standby s.phase.active s.sent s.told i.log.2);
        });
        written = λ asked s i. ap (λ (t : ServiceState). t.written) (becomes asked s i)
            ∙ ap₂ (λ c h. s.written ++ cond c (history_text h) []) (ap (λ (a : LiveSetup). a.history) i.asks) (sym (ap (λ (c : StandbyState). c.history) (comes asked s i)));
      }
        where
          comes : (asked : LiveSetup) (s : ServiceState) → IsAtService asked x s → standby_of z ≡ flushed s.standby
          comes asked s i = done ∙ ap flushed i.standby

          becomes : (asked : LiveSetup) (s : ServiceState) → IsAtService asked x s → step asked s ≡ becomes_active asked s
          becomes asked s i = between asked s i ∙ ap (λ b. cond b (becomes_active asked s) (tells_fault DISORDER (codes " txid ") (s.standby.last + 1) s)) ends

-- ---- Epochs.

module _ (x : Service) (txid epoch : ℕ) (losing : Bool) where
  -- as the code sees it
  by_epoch : (asked : LiveSetup) (s : ServiceState) → IsAtService asked x s → (b : Bool) → ltb epoch x.epoch ≡ b
      → takes_promotion_in txid epoch losing asked s ≡ cond b (tells_fault STALE_EPOCH (codes " epoch ") s.epoch s) (takes_promotion txid losing asked (names epoch s))
  by_epoch asked s i b e = ap (λ c. cond c (tells_fault STALE_EPOCH (codes " epoch ") s.epoch s) (takes_promotion txid losing asked (names epoch s))) (ap (λ k. ltb epoch k) (sym i.epoch) ∙ e)

  pub too_late : ltb epoch x.epoch ≡ true → FollowsStep (takes_promotion_in txid epoch losing) x x (fault_text STALE_EPOCH (codes " epoch ") x.epoch)
  too_late e = only_tells (takes_promotion_in txid epoch losing) x _ (λ asked s i.
      (by_epoch asked s i true e ∙ ap (λ k. says (fault_text STALE_EPOCH (codes " epoch ") k) s) (sym i.epoch)))

  pub in_time : (y z : Service) (told : List ℕ) → ltb epoch x.epoch ≡ false → FollowsStep (λ _ s. names epoch s) x y [] → FollowsStep (takes_promotion txid losing) y z told
      → FollowsStep (takes_promotion_in txid epoch losing) x z told
  in_time y z told e named made = same_makes (takes_promotion_in txid epoch losing) (λ asked s. takes_promotion txid losing asked (names epoch s)) x z told (λ asked s i. by_epoch asked s i false e)
      (then_makes (λ _ s. names epoch s) (takes_promotion txid losing) x y z [] told named made)
