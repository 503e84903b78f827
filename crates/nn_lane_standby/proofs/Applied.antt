-- What the calls of the standby of one thread leave of what every standby keeps.
use Rattle.std.proofs.Common.{◌≡◌, ℕ, ◌+◌, true, false, List, ◌∷◌, Some, None, sym, ap, ◌∙◌, subst}
use Rattle.nn_types.specs.declared.tx.Tx.{Tx}
use Rattle.nn_model.specs.Log.{CountsUp}
use Rattle.nn_model.specs.Stands.{StandbyState}
use Rattle.nn_shadow.specs.declared.fault.Stop.{Stop}
use Rattle.nn_shadow.specs.Contents.{Shadow}
use Rattle.nn_lane_standby.specs.Shadows.{ShowsSame, IsApplied, IsFlushed}
use Rattle.nn_lane_standby.specs.Tailing.{Standby, Keeps, with_rest, with_shadow, stopping}
use Rattle.nn_lane_standby.specs.Parts.{IsLive}
use Rattle.nn_lane_standby.proofs.Shadowing.{same_last, same_numbers, applied_last, applied_numbers}
use Rattle.nn_lane_standby.proofs.Unflushed.{same_before, applied_before}
use Rattle.nn_lane_standby.proofs.Finished.{flushing, activated}

-- the first in hand is the next of the log, and the others go on behind it
goes_on : (x : Standby) (tx : Tx) (rest : List Tx) → Keeps x → x.rest ≡ tx ∷ rest → (tx.txid ≡ x.shadow.last + 1) × CountsUp tx.txid rest
goes_on x tx rest k e = let up : CountsUp x.shadow.last (tx ∷ rest) = subst (CountsUp x.shadow.last) e k.next in (up.0, up.1)

pub is_next_tx : (x : Standby) (tx : Tx) (rest : List Tx) → Keeps x → x.rest ≡ tx ∷ rest → tx.txid ≡ x.shadow.last + 1
is_next_tx x tx rest k e = (goes_on x tx rest k e).0

pub keeps_applied : (x : Standby) (tx : Tx) (rest : List Tx) (s : Shadow) → Keeps x → IsLive x → x.rest ≡ tx ∷ rest → IsApplied x.shadow tx s → Keeps (with_shadow (with_rest x rest) s)
keeps_applied x tx rest s k l e a =
    let last : s.last ≡ tx.txid = applied_last x.shadow s tx a in record {
      lanes = k.lanes;
      few = k.few;
      count = a.settings.datanodes ∙ k.count;
      numbers = λ dn. applied_numbers x.shadow s tx a dn ∙ k.numbers dn;
      next = (let P : ℕ → Type 0 = λ n. CountsUp n rest in subst P (sym last) (goes_on x tx rest k e).1);
      live = λ q. ap (λ z. z.stopped) a.phase ∙ k.live q;
      stops = λ z q. absurd (let w : None ≡ Some z = sym l.1 ∙ q in cc);
      begun_live = λ q. k.begun_live (sym (ap (λ z. z.active) a.phase) ∙ q);
      not_begun = λ q. k.not_begun (sym (ap (λ z. z.active) a.phase) ∙ q);
      before_flush = λ q. applied_before x.shadow s tx a (k.before_flush q);
    }

still_next : (x : Standby) (s : Shadow) → Keeps x → ShowsSame x.shadow s → CountsUp s.last x.rest
still_next x s k h = let P : ℕ → Type 0 = λ n. CountsUp n x.rest in subst P (sym (same_last x.shadow s h)) k.next

pub keeps_unchanged : (x : Standby) (s : Shadow) → Keeps x → ShowsSame x.shadow s → s.phase ≡ x.shadow.phase → Keeps (with_shadow x s)
keeps_unchanged x s k h p = record {
  lanes = k.lanes;
  few = k.few;
  count = h.settings.datanodes ∙ k.count;
  numbers = λ dn. same_numbers x.shadow s h dn ∙ k.numbers dn;
  next = still_next x s k h;
  live = λ q. ap (λ z. z.stopped) p ∙ k.live q;
  stops = λ z q. k.stops z q ∙ ap (λ n. n + 1) (sym (same_last x.shadow s h));
  begun_live = λ q. k.begun_live (sym (ap (λ z. z.active) p) ∙ q);
  not_begun = λ q. k.not_begun (sym (ap (λ z. z.active) p) ∙ q);
  before_flush = λ q. same_before x.shadow s h (k.before_flush q);
}

pub keeps_stopped : (x : Standby) (s : Shadow) (m : Stop) → Keeps x → IsLive x → ShowsSame x.shadow s → s.phase.active ≡ x.shadow.phase.active → m.txid ≡ x.shadow.last + 1 → Keeps (stopping (with_shadow x s) m)
keeps_stopped x s m k l h p n = record {
  lanes = k.lanes;
  few = k.few;
  count = h.settings.datanodes ∙ k.count;
  numbers = λ dn. same_numbers x.shadow s h dn ∙ k.numbers dn;
  next = still_next x s k h;
  live = λ q. absurd (let w : Some m ≡ None = q in cc);
  stops = λ z q. ap (λ w. w.txid) (let e : z ≡ m = cc in e) ∙ n ∙ ap (λ j. j + 1) (sym (same_last x.shadow s h));
  begun_live = λ q. absurd (let w : false ≡ true = sym l.0 ∙ sym p ∙ q in cc);
  not_begun = λ q. k.not_begun (sym p ∙ q);
  before_flush = λ q. same_before x.shadow s h (k.before_flush q);
}

pub keeps_flushing : (x : Standby) (s : Shadow) → Keeps x → x.stop ≡ None → ShowsSame x.shadow s → s.phase ≡ record x.shadow.phase { active = true } → Keeps (flushing x s)
keeps_flushing x s k l h p = record {
  lanes = k.lanes;
  few = k.few;
  count = h.settings.datanodes ∙ k.count;
  numbers = λ dn. same_numbers x.shadow s h dn ∙ k.numbers dn;
  next = still_next x s k h;
  live = λ q. ap (λ z. z.stopped) p ∙ k.live q;
  stops = λ z q. k.stops z q ∙ ap (λ n. n + 1) (sym (same_last x.shadow s h));
  begun_live = λ _. l;
  not_begun = λ q. absurd (let w : true ≡ false = sym (ap (λ z. z.active) p) ∙ q in cc);
  before_flush = λ q. same_before x.shadow s h (k.before_flush q);
}

flushed_last : (x s : Shadow) → IsFlushed x s → s.last ≡ x.last
flushed_last x s f = ap (λ (z : StandbyState). z.last) f.standby

pub keeps_active : (x : Standby) (s : Shadow) → Keeps x → x.stop ≡ None → IsFlushed x.shadow s → Keeps (activated x s)
keeps_active x s k l f = record {
  lanes = k.lanes;
  few = k.few;
  count = f.settings.datanodes ∙ k.count;
  numbers = λ dn. ap (λ (z : StandbyState). z.last_number dn) f.standby ∙ k.numbers dn;
  next = (let P : ℕ → Type 0 = λ n. CountsUp n x.rest in subst P (sym (flushed_last x.shadow s f)) k.next);
  live = λ q. ap (λ z. z.stopped) f.phase ∙ k.live q;
  stops = λ z q. k.stops z q ∙ ap (λ n. n + 1) (sym (flushed_last x.shadow s f));
  begun_live = λ _. l;
  not_begun = λ q. absurd (let w : true ≡ false = sym (ap (λ z. z.active) f.phase) ∙ q in cc);
  before_flush = λ q. absurd (let w : true ≡ false = q in cc);
}
