-- What a transaction that was not applied leaves.
use Rattle.std.proofs.Common.{◌≡◌, Some, None, refl, sym, ap, subst, ◌∙◌, inl, inr}
use Rattle.nn_types.specs.declared.tx.Tx.{Tx}
use Rattle.nn_model.specs.Apply.{refusal}
use Rattle.nn_model.specs.Stands.{StandbyState}
use Rattle.nn_shadow.specs.declared.fault.ApplyFault.{ApplyFault}
use Rattle.nn_shadow.specs.declared.fault.ApplyFault.TheVariants.{OutOfMemory}
use Rattle.nn_shadow.specs.Refusals.{Phase, turn_refusal, IsApplyFault, phase_after_apply}
use Rattle.nn_shadow.specs.Contents.{Shadow, standby_of, KeepsSettings, Becomes}
use Rattle.nn_shadow.proofs.Refusing.{before_turn, turn_leaves, fits_if}

pub record Refuses (old : Shadow) (tx : Tx) (fault : ApplyFault) (new : Shadow) : Type 0 where
  pub why : IsApplyFault old.phase (standby_of old) tx fault
  pub left : (standby_of new ≡ standby_of old) × (new.phase ≡ phase_after_apply old.phase tx fault)
  pub same : (fault ≡ OutOfMemory → ⊥) → new ≡ record old { phase = phase_after_apply old.phase tx fault }
  pub numbers : new.numbers ≡ old.numbers
  pub settings : KeepsSettings old new

-- before its turn
pub refused_before : (x : Shadow) (tx : Tx) (fault : ApplyFault) → turn_refusal x.phase (standby_of x) tx ≡ Some fault → Refuses x tx fault x
refused_before x tx fault is =
    let stays = sym (turn_leaves x.phase (standby_of x) tx fault is) in
    record {
      why = inl (before_turn x.phase (standby_of x) tx fault is);
      left = (refl, stays);
      same = λ other. ap (λ (phase : Phase). record x { phase = phase }) stays;
      numbers = refl;
      settings = record { datanodes = refl; min = refl; permille = refl };
    }

-- a fault other than out of memory is the edit's
not_made : (x : Shadow) (tx : Tx) (fault : ApplyFault) → turn_refusal x.phase (standby_of x) tx ≡ None → IsApplyFault x.phase (standby_of x) tx fault →
    (fault ≡ OutOfMemory → ⊥) → refusal x.namespace tx.edit ≡ None → ⊥
not_made x tx fault turn why other applies = elim why [
  | inl is ↦ (let e : None ≡ Some fault = sym (fits_if x.phase (standby_of x) tx turn applies) ∙ is in absurd (cc))
  | inr memory ↦ other memory.1
]

pub refused_after : (old mid new : Shadow) (tx : Tx) (fault : ApplyFault) → turn_refusal old.phase (standby_of old) tx ≡ None →
    Becomes old (standby_of old) mid → ((refusal old.namespace tx.edit ≡ None → ⊥) → mid ≡ old) → mid.numbers ≡ old.numbers →
    IsApplyFault mid.phase (standby_of mid) tx fault → new ≡ record mid { phase = phase_after_apply mid.phase tx fault } → Refuses old tx fault new
refused_after old mid new tx fault turn kept same numbers why left =
    let why_old : IsApplyFault old.phase (standby_of old) tx fault = subst (λ (phase : Phase). IsApplyFault phase (standby_of old) tx fault) kept.phase
    (subst (λ (s : StandbyState). IsApplyFault mid.phase s tx fault) kept.standby why) in
    record {
      why = why_old;
      left = (
        ap standby_of left ∙ kept.standby,
        ap (λ (x : Shadow). x.phase) left ∙ ap (λ (phase : Phase). phase_after_apply phase tx fault) kept.phase,
      );
      same = λ other. left ∙ ap (λ (x : Shadow). record x { phase = phase_after_apply x.phase tx fault }) (same (not_made old tx fault turn why_old other));
      numbers = ap (λ (x : Shadow). x.numbers) left ∙ numbers;
      settings = subst (KeepsSettings old) (sym left) (record { datanodes = kept.settings.datanodes; min = kept.settings.min; permille = kept.settings.permille });
    }

pub turn_still : (old mid : Shadow) (tx : Tx) → Becomes old (standby_of old) mid → turn_refusal old.phase (standby_of old) tx ≡ None →
    turn_refusal mid.phase (standby_of mid) tx ≡ None
turn_still old mid tx kept turn =
    subst (λ (phase : Phase). turn_refusal phase (standby_of mid) tx ≡ None) (sym kept.phase)
    (subst (λ (s : StandbyState). turn_refusal old.phase s tx ≡ None) (sym kept.standby) turn)
