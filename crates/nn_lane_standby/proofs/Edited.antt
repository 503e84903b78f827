-- What a step Edit comes to.
use Rattle.std.proofs.Common.{◌≡◌, ℕ, ◌+◌, ◌≤◌, List, [], ◌∷◌, ◌++◌, None, Ok, Err, refl, sym, ap, ◌∙◌, subst, inl, inr}
use Rattle.nn_segment.specs.Segment.{Segment, first_txid}
use Rattle.nn_segment.specs.Source.{Answer, Asked}
use Rattle.nn_model.specs.Log.{counted as news}
use Rattle.nn_model.specs.Apply.{refusal}
use Rattle.nn_segment.specs.declared.source.Item.TheVariants.{Segment as segment}
use Rattle.nn_lane_standby.proofs.Sources.{asked_one}
use Rattle.nn_segment.specs.declared.cursor.TakenUp.TheVariants as taken_up
use Rattle.nn_lane_standby.specs.declared.standby.Stepped.TheVariants as stepped
use Rattle.nn_lane_standby.specs.declared.fault.StepFault.{StepFault}
use Rattle.nn_lane_standby.specs.declared.fault.StepFault.TheVariants as fault
use Rattle.nn_lane_standby.specs.Tailing.{Standby, Carries, with_rest}
use Rattle.nn_lane_standby.specs.Parts.{IsLive, AppliesNext, NotApplied}
use Rattle.nn_lane_standby.specs.Steps.{OnceAsked, SameLanes, Edits, in_hand}
use Rattle.nn_lane_standby.proofs.Carried.{carries_same, carries_then, carries_answer, carries_segment, carries_gap, carries_applied, carries_stop, carries_unchanged, end_adds_none, fault_adds_none, AddsNone, TakesIn}
use Rattle.nn_shadow.specs.Contents.{standby_of}
use Rattle.nn_shadow.specs.Calls.{applied_to}
use Rattle.nn_lane_standby.proofs.Shadowing.{settings_same, settings_then, applied_last, nothing_new}
use Rattle.nn_lane_standby.specs.Shadows.{ShowsSame}

same_lanes : (x : Standby) → SameLanes x x
same_lanes x = record { ends = refl; undelivered = refl; begun = refl; active = refl; settings = settings_same x.shadow }

-- The standby `mid` has in hand what these answers put there
pub record Ready (old : Standby) (answers : List Answer) (mid : Standby) : Type 0 where
  pub carries : Carries old answers mid
  pub lanes : SameLanes old mid
  pub shadow : mid.shadow ≡ old.shadow
  pub stop : mid.stop ≡ None
  pub rest : in_hand old answers ≡ mid.rest

pub ready_now : (old : Standby) → IsLive old → Ready old [] old
ready_now old l = record { carries = carries_same old; lanes = same_lanes old; shadow = refl; stop = l.1; rest = refl }

takes_in : (old : Standby) (p : Segment) (mid : Standby) → IsLive old → old.rest ≡ [] → first_txid p.txs ≤ old.shadow.last + 1 → mid ≡ with_rest old (news old.shadow.last p.txs) → TakesIn old p mid
takes_in old p mid l e w q = subst (TakesIn old p) (sym q) (record { live = l; was = e; shadow = refl; ends = refl; undelivered = refl; begun = refl; stop = l.1; low = w; now = refl })

pub ready_new : (old mid : Standby) (p : Segment) → IsLive old → old.rest ≡ [] → first_txid p.txs ≤ old.shadow.last + 1 → mid ≡ with_rest old (news old.shadow.last p.txs) → Ready old (Ok (segment p) ∷ []) mid
ready_new old mid p l e low now = record {
  carries = carries_segment old mid p (takes_in old p mid l e low now);
  lanes = subst (SameLanes old) (sym now) (record { ends = refl; undelivered = refl; begun = refl; active = refl; settings = settings_same old.shadow });
  shadow = ap (λ z. z.shadow) now;
  stop = ap (λ z. z.stop) now ∙ l.1;
  rest = sym (ap (λ z. z.rest) now);
}

-- it is as live
pub ready_live : (old mid : Standby) (answers : List Answer) → IsLive old → Ready old answers mid → IsLive mid
ready_live old mid answers l r = (r.lanes.begun ∙ l.0, r.stop, r.lanes.active ∙ l.2)

lanes_then : (x y z : Standby) → SameLanes x y → SameLanes y z → SameLanes x z
lanes_then x y z a b = record { ends = b.ends ∙ a.ends; undelivered = b.undelivered ∙ a.undelivered; begun = b.begun ∙ a.begun; active = b.active ∙ a.active; settings = settings_then x.shadow y.shadow z.shadow a.settings b.settings }

add_none : (answers : List Answer) → answers ++ [] ≡ answers
add_none [] = refl
add_none (r ∷ rs) = ap (λ l. r ∷ l) (add_none rs)

carries_on : (old mid new : Standby) (answers : List Answer) → Carries old answers mid → Carries mid [] new → Carries old answers new
carries_on old mid new answers a b = subst (λ r. Carries old r new) (add_none answers) (carries_then old mid new answers [] a b)

module _ {S : Type 0} (gives : S → Answer → S → Type 0) where
  pub applied_then : (s t : S) (old mid new : Standby) (answers : List Answer) (txid : ℕ) → IsLive old → Asked gives s answers t → Ready old answers mid → AppliesNext mid txid new → Edits gives s old t new (Ok (stepped.Applied txid))
  applied_then s t old mid new answers txid l asked r a = (
    answers,
    asked,
    carries_on old mid new answers r.carries (carries_applied mid new txid (ready_live old mid answers l r) a),
    lanes_then old mid new r.lanes (subst (SameLanes mid) (sym a.now) (record { ends = refl; undelivered = refl; begun = ap (λ z. z.active) a.applied.phase; active = refl; settings = a.applied.settings })),
    (a.tx, r.rest ∙ a.was ∙ ap (λ z. a.tx ∷ z) (sym (ap (λ z. z.rest) a.now)), a.is_txid, a.is_txid ∙ a.applied.next ∙ ap (λ z. z.last + 1) r.shadow, ap (λ z. z.shadow.last) a.now ∙ applied_last mid.shadow a.shown a.tx a.applied ∙ sym a.is_txid, ap (λ z. z.stop) a.now ∙ r.stop, ap (λ z. standby_of z.shadow) a.now ∙ a.applied.standby ∙ ap (λ z. applied_to (standby_of z) a.tx) r.shadow),
  )

  pub refused_then : (s t : S) (old mid new : Standby) (answers : List Answer) (f : StepFault) → IsLive old → Asked gives s answers t → Ready old answers mid → NotApplied mid new f → Edits gives s old t new (Err f)
  refused_then s t old mid new answers fault.AlreadyActive l asked r h = absurd h
  refused_then s t old mid new answers fault.BadLane l asked r h = absurd h
  refused_then s t old mid new answers (fault.LogNotEnded f) l asked r h = absurd h
  refused_then s t old mid new answers (fault.Stopped m) l asked r h = (
    answers,
    asked,
    carries_on old mid new answers r.carries (carries_stop mid new m (ready_live old mid answers l r) h),
    lanes_then old mid new r.lanes (subst (SameLanes mid) (sym h.now) (record { ends = refl; undelivered = refl; begun = h.active; active = refl; settings = h.same.settings })),
    (
      ap (λ z. z.stop) h.now,
      h.next ∙ ap (λ z. z.last + 1) r.shadow,
      subst (λ z. ShowsSame z new.shadow) r.shadow (subst (λ z. ShowsSame mid.shadow z) (sym (ap (λ z. z.shadow) h.now)) h.same),
      ap (λ z. z.rest) h.now ∙ sym r.rest,
      inl (h.tx, h.rest, h.fault, r.rest ∙ h.was, ap (λ z. refusal z.namespace h.tx.edit) (sym r.shadow) ∙ h.refused, h.cause),
    ),
  )
  refused_then s t old mid new answers fault.OutOfMemory l asked r h = (
    answers,
    asked,
    carries_on old mid new answers r.carries (carries_unchanged mid new (ready_live old mid answers l r) h),
    lanes_then old mid new r.lanes (subst (SameLanes mid) (sym h.now) (record { ends = refl; undelivered = refl; begun = ap (λ z. z.active) h.phase; active = refl; settings = h.same.settings })),
    (subst (λ z. ShowsSame z new.shadow) r.shadow (subst (λ z. ShowsSame mid.shadow z) (sym (ap (λ z. z.shadow) h.now)) h.same), ap (λ z. z.rest) h.now ∙ sym r.rest, ap (λ z. z.stop) h.now ∙ r.stop),
  )

  -- the source was asked, and nothing is applied
  pub asked_then : (s t : S) (old new : Standby) (r : Answer) (f : StepFault) → IsLive old → old.rest ≡ [] → gives s r t → OnceAsked old r new (Err f) → Edits gives s old t new (Err f)
  asked_then s t old new r fault.AlreadyActive l e g h = absurd h
  asked_then s t old new r fault.BadLane l e g h = absurd h
  asked_then s t old new r fault.OutOfMemory l e g h = absurd h
  asked_then s t old new r (fault.LogNotEnded f) l e g h = (
    r ∷ [],
    asked_one gives s t r g,
    subst (Carries old (r ∷ [])) (sym h.1) (carries_answer old r l (subst AddsNone (sym h.0) (fault_adds_none f))),
    subst (SameLanes old) (sym h.1) (same_lanes old),
    (ap (λ q. q ∷ []) h.0, e, h.1),
  )
  asked_then s t old new r (fault.Stopped m) l e g h =
      let q : Ok (segment h.0) ∷ [] ≡ r ∷ [] = ap (λ q. q ∷ []) (sym h.1) in (
        r ∷ [],
        asked_one gives s t r g,
        subst (λ rs. Carries old rs new) q (carries_gap old new h.0 m (record { live = l; was = e; high = h.2; none = h.3; txid = h.4; cause = h.5; now = h.6 })),
        subst (SameLanes old) (sym h.6) (record { ends = refl; undelivered = refl; begun = refl; active = refl; settings = settings_same old.shadow }),
        (ap (λ z. z.stop) h.6, h.4, subst (λ z. ShowsSame old.shadow z) (sym (ap (λ z. z.shadow) h.6)) (nothing_new old.shadow), ap (λ z. z.rest) h.6 ∙ e ∙ sym h.3 ∙ ap (in_hand old) q, inr (h.0, sym q, h.2, h.5)),
      )

  pub ended_then : (s t : S) (old new : Standby) (r : Answer) → IsLive old → old.rest ≡ [] → gives s r t → OnceAsked old r new (Ok taken_up.End) → Edits gives s old t new (Ok stepped.LogEnded)
  ended_then s t old new r l e g h = (
    r ∷ [],
    asked_one gives s t r g,
    subst (Carries old (r ∷ [])) (sym h.1) (carries_answer old r l (subst AddsNone (sym h.0) end_adds_none)),
    subst (SameLanes old) (sym h.1) (same_lanes old),
    (ap (λ q. q ∷ []) h.0, e, h.1),
  )

  pub passed_then : (s t : S) (old new : Standby) (r : Answer) → IsLive old → old.rest ≡ [] → gives s r t → OnceAsked old r new (Ok taken_up.Old) → Edits gives s old t new (Ok stepped.Passed)
  passed_then s t old new r l e g h =
      let q : Ok (segment h.0) ∷ [] ≡ r ∷ [] = ap (λ q. q ∷ []) (sym h.1) in (
        r ∷ [],
        asked_one gives s t r g,
        subst (λ rs. Carries old rs new) q (carries_segment old new h.0 (subst (TakesIn old h.0) (sym h.4) (record { live = l; was = e; shadow = refl; ends = refl; undelivered = refl; begun = refl; stop = l.1; low = h.2; now = e ∙ sym h.3 }))),
        subst (SameLanes old) (sym h.4) (same_lanes old),
        (h.0, sym q, h.2, h.3, h.4),
      )

  pub new_asked : (s t : S) (old mid : Standby) (r : Answer) → IsLive old → old.rest ≡ [] → gives s r t → OnceAsked old r mid (Ok taken_up.New) → Asked gives s (r ∷ []) t × Ready old (r ∷ []) mid
  new_asked s t old mid r l e g h =
      let q : Ok (segment h.0) ∷ [] ≡ r ∷ [] = ap (λ q. q ∷ []) (sym h.1) in
      (asked_one gives s t r g, subst (λ rs. Ready old rs mid) q (ready_new old mid h.0 l e h.2 h.4))
