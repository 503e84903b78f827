-- A transaction that the code applied, or was refused, is one that the definition's service applied or told.
use Rattle.std.proofs.Common.{◌≡◌, ℕ, List, [], ◌++◌, cond, None, Some, codes, sym, subst, ap, ap₂, ◌∙◌}
use Rattle.nn_listing.specs.Trail.{history_text}
use Rattle.nn_types.specs.declared.tx.Tx.{Tx}
use Rattle.nn_model.specs.Stands.{StandbyState}
use Rattle.nn_shadow.specs.declared.fault.ApplyFault.{ApplyFault}
use Rattle.nn_shadow.specs.Calls.{applied_to}
use Rattle.nn_shadow.specs.Contents.{Shadow, KeepsSettings, standby_of, last_number_in}
use Rattle.nn_shadow.specs.Numbers.{number_of_apply}
use Rattle.nn_shadow.specs.Refusals.{Phase, apply_refusal, phase_after_apply}
use Rattle.nn_live.specs.Live.{LiveSetup, ServiceState, applies}
use Rattle.nn_live.specs.Serving.{Service, IsAtService, FollowsStep, forgetful, fault_text, takes_tx}
use Rattle.nn_live.proofs.Handing.{told}
use Rattle.nn_live.proofs.Places.{asks_still}
use Rattle.nn_live.proofs.Standing.{one_tx}

pub same_apply_refusal : (asked : LiveSetup) (x : Service) (s : ServiceState) (tx : Tx) → IsAtService asked x s
    → apply_refusal x.shadow.phase (standby_of x.shadow) tx ≡ apply_refusal s.phase s.standby tx
same_apply_refusal asked x s tx i = ap₂ (λ (p : Phase) (y : StandbyState). apply_refusal p y tx) i.phase i.standby

module _ (x : Service) (z : Shadow) (tx : Tx)
    (is : standby_of z ≡ applied_to (standby_of x.shadow) tx) (phase : z.phase ≡ x.shadow.phase) (numbers : z.numbers ≡ x.shadow.numbers) (settings : KeepsSettings x.shadow z)
    (fits : apply_refusal x.shadow.phase (standby_of x.shadow) tx ≡ None) where
  takes : (asked : LiveSetup) (s : ServiceState) → IsAtService asked x s → takes_tx tx asked s ≡ applies asked tx None (λ t. t) s
  takes asked s i = ap (λ o. applies asked tx o (λ t. t) s) (sym (same_apply_refusal asked x s tx i) ∙ fits)

  comes : (asked : LiveSetup) (s : ServiceState) → IsAtService asked x s → standby_of z ≡ applied_to s.standby tx
  comes asked s i = is ∙ ap (λ (y : StandbyState). applied_to y tx) i.standby

  pub applied : FollowsStep (takes_tx tx) x (forgetful (record x { shadow = z })) (told x.history z)
  applied = record {
    at = λ asked s i. subst (IsAtService asked (forgetful (record x { shadow = z }))) (sym (takes asked s i)) (record {
      asks = asks_still asked x z settings i.asks;
      standby = ap (λ (c : StandbyState). record c { history = [] }) (comes asked s i);
      phase = phase ∙ i.phase;
      sent = λ dn. ap (λ (ns : List ℕ). last_number_in ns dn) numbers ∙ i.sent dn;
      in_hand = i.in_hand;
      known = i.known;
      epoch = i.epoch;
      promoted = i.promoted;
      full = i.full;
      passed = i.passed;
      segments = i.segments;
      lines = i.lines;
      log = (i.log.0, i.log.1, one_tx asked i.log.0 i.log.1 tx (λ t. t) (λ t j. j) s i.log.2 None (sym (same_apply_refusal asked x s tx i) ∙ fits));
    });
    written = λ asked s i. ap (λ (t : ServiceState). t.written) (takes asked s i)
        ∙ ap₂ (λ b h. s.written ++ cond b (history_text h) []) (ap (λ (a : LiveSetup). a.history) i.asks) (sym (ap (λ (c : StandbyState). c.history) (comes asked s i)));
  }

module _ (x : Service) (tx : Tx) (fault : ApplyFault) (is : apply_refusal x.shadow.phase (standby_of x.shadow) tx ≡ Some fault) where
  abbrev pub stopped_at : Service
  stopped_at = record x { shadow = record x.shadow { phase = phase_after_apply x.shadow.phase tx fault } }

  tells : (asked : LiveSetup) (s : ServiceState) → IsAtService asked x s → takes_tx tx asked s ≡ applies asked tx (Some fault) (λ t. t) s
  tells asked s i = ap (λ o. applies asked tx o (λ t. t) s) (sym (same_apply_refusal asked x s tx i) ∙ is)

  pub refused : FollowsStep (takes_tx tx) x stopped_at (fault_text (number_of_apply fault) (codes " txid ") tx.txid)
  refused = record {
    at = λ asked s i. subst (IsAtService asked stopped_at) (sym (tells asked s i)) (record {
      asks = i.asks;
      standby = i.standby;
      phase = ap (λ (p : Phase). phase_after_apply p tx fault) i.phase;
      sent = i.sent;
      in_hand = i.in_hand;
      known = i.known;
      epoch = i.epoch;
      promoted = i.promoted;
      full = i.full;
      passed = i.passed;
      segments = i.segments;
      lines = i.lines;
      log = (i.log.0, i.log.1, one_tx asked i.log.0 i.log.1 tx (λ t. t) (λ t j. j) s i.log.2 (Some fault) (sym (same_apply_refusal asked x s tx i) ∙ is));
    });
    written = λ asked s i. ap (λ (t : ServiceState). t.written) (tells asked s i);
  }
