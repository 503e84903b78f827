-- A checkpoint in hand is a prefix of the image of the namespace that is shown.
use Rattle.std.specs.Prelude.{◌≢◌, true, IfSome}
use Rattle.std.specs.declared.ops.ControlFlow.{ControlFlow}
use Rattle.std.specs.declared.ops.ControlFlow.TheVariants.{Continue, Break}
use Rattle.std.proofs.Common.{◌≡◌, ℕ, arith, List, [], ◌∷◌, Option, Some, None, refl, sym, ap, ◌∙◌, subst}
use Rattle.std.specs.Io.KnownBytes.{Appends}
use Rattle.nn_image.specs.InParts.{IsSaving}
use Rattle.nn_image.specs.Text.{image_text}
use Rattle.nn_image.proofs.InParts.{begins, saved_ok}
use Rattle.nn_lane_standby.specs.Tailing.{Standby}
use Rattle.nn_drive.specs.Checkpoints.{Begun, Checkpointing, Heard, IsCalledOff, held, request_with, new_writer, EndsAs, IsCheckpointPart, BeganCheckpoint, IsLeftWith, HasNone, CallsOff, BeginsIn, Continues, Turns, asks_of, IsImageOf, HearsTruth, tells_truly, EachIsTheImage}
use Rattle.nn_drive.specs.Serving.{KeepsNamespace, Shown, AreShownInTurn, AskedInTurn, IsNextShown, holds}
use Rattle.nn_drive.specs.declared.checkpointing.EndedCheckpoint.{EndedCheckpoint}
use Rattle.nn_drive.specs.declared.checkpointing.CheckpointOutcome.TheVariants.{Written, CalledOff, Failed}
use Rattle.nn_drive.specs.declared.operator.Request.{Request}
use Rattle.nn_drive.specs.declared.operator.Request.TheVariants.{GoOn, Forget, Hold, ForgetAndHold, Promote}

module _ {O W : Type 0} (hears : O → W → EndedCheckpoint → O → Type 0) where
  -- it ended, and the operator heard how
  pub left_ended : (o q : O) (flow : ControlFlow (Heard W) Begun) (e : Heard W) (p : Checkpointing O) → q ≡ o → flow ≡ Break e → p.in_hand ≡ None → hears q e.0 e.1 p.operator → (heard : Option (Heard W)) × IsLeftWith hears o flow heard p
  left_ended o q flow e p same is none h = (Some e, subst (λ f. IsLeftWith hears o f (Some e) p) (sym is) (none, refl, subst (λ r. hears r e.0 e.1 p.operator) same h))

module _ {O W : Type 0} (contents : W → Option (List ℕ)) (hears : O → W → EndedCheckpoint → O → Type 0) where
  -- what was in hand is called off
  pub called : (o q : O) (hand : Option Begun) (b : Begun) (e : Heard W) (p : Checkpointing O) → q ≡ o → hand ≡ Some b → IsCalledOff contents b e → p.in_hand ≡ None → hears q e.0 e.1 p.operator
      → (heard : Option (Heard W)) × CallsOff contents hears hand o heard p
  called o q hand b e p same is ended none h =
      let left = left_ended hears o q (Break e) e p same refl none h in
      (left.0, subst (λ i. CallsOff contents hears i o left.0 p) (sym is) (e, ended, left.1))

module _ {O W : Type 0} (contents : W → Option (List ℕ)) (hears : O → W → EndedCheckpoint → O → Type 0) (wants : O → Standby → Option W → O → Type 0) (asks : O → Standby → ℕ → Request → O → Type 0) where
  -- ---- A turn.

  promotion_stays : (hand : Option Begun) → Promote ≡ request_with hand Promote
  promotion_stays None = refl
  promotion_stays (Some b) = refl

  pub promoted : (o s : Checkpointing O) (x : Standby) (n : ℕ) (v : Request) (r : O) (p : Checkpointing O) → s ≡ o → asks s.operator x n v r → v ≡ Promote
      → (heard : Option (Heard W)) × CallsOff contents hears s.in_hand r heard p → p.rows ≡ s.rows → asks_of contents hears wants asks o x n Promote p
  promoted o s x n v r p same a is called rows = subst (λ z. asks_of contents hears wants asks z x n Promote p) same (
    called.0,
    record {
      request = v;
      operator = r;
      asked = a;
      promotes = λ _. called.1;
      goes_on = λ other. absurd (other is);
      requests = promotion_stays p.in_hand ∙ ap (request_with p.in_hand) (sym is);
      rows = rows;
    },
  )

  pub continued : (o s : Checkpointing O) (x : Standby) (n : ℕ) (v w : Request) (r : O) (p : Checkpointing O) → s ≡ o → asks s.operator x n v r → (v ≡ Promote → ⊥)
      → (heard : Option (Heard W)) × Continues contents hears wants s.in_hand s.rows x r heard p → w ≡ request_with p.in_hand v → p.rows ≡ s.rows → asks_of contents hears wants asks o x n w p
  continued o s x n v w r p same a other went requests rows = subst (λ z. asks_of contents hears wants asks z x n w p) same (
    went.0,
    record {
      request = v;
      operator = r;
      asked = a;
      promotes = λ is. absurd (other is);
      goes_on = λ _. went.1;
      requests = requests;
      rows = rows;
    },
  )

  -- ---- What it tells.

  -- the checkpoint has a prefix of the image of this standby's namespace, and what is left to be written is the rest
  abbrev IsPrefixOf : Standby → Begun → Type 0
  IsPrefixOf x b = (b.txid ≡ x.shadow.last) × ((w : W) × IsSaving x.shadow.namespace x.shadow.last (new_writer (contents w)) b.image b.place)

  prefix_later : (x y : Standby) (b : Begun) → KeepsNamespace x y → IsPrefixOf x b → IsPrefixOf y b
  prefix_later x y b k h = (
    h.0 ∙ sym k.last,
    (
      h.1.0,
      subst (λ n. IsSaving n y.shadow.last (new_writer (contents h.1.0)) b.image b.place) (sym k.namespace)
          (subst (λ t. IsSaving x.shadow.namespace t (new_writer (contents h.1.0)) b.image b.place) (sym k.last) h.1.1),
    ),
  )

  -- a turn tells the truth, and leaves a prefix in hand
  abbrev Tells : Standby → Option (Heard W) → Option Begun → Type 0
  Tells x heard hand = HearsTruth contents hears wants asks x heard × IfSome hand (λ b. IsPrefixOf x b)

  -- what came of a step
  abbrev IsGood : Standby → ControlFlow (Heard W) Begun → Type 0
  IsGood x (Continue b) = IsPrefixOf x b
  IsGood x (Break e) = e.1.outcome ≡ Written → IsImageOf contents x e

  part_good : (rows : ℕ) (x : Standby) (b : Begun) (flow : ControlFlow (Heard W) Begun) → IsCheckpointPart contents rows x b flow → IsPrefixOf x b → IsGood x flow
  part_good rows x b (Continue c) h prefix =
      (h.0 ∙ prefix.0, (prefix.1.0, saved_ok x.shadow.namespace rows b.place b.image c.image (Some c.place) h.1 (λ e. absurd (cc)) x.shadow.last (new_writer (contents prefix.1.0)) prefix.1.1))
  part_good rows x b (Break e) h prefix = λ written.
      let image = h.1.0 in
      let took = saved_ok x.shadow.namespace rows b.place b.image image None tt (λ _. subst (λ o. EndsAs o rows x b image) written h.1.2) x.shadow.last (new_writer (contents prefix.1.0)) prefix.1.1 in
      record {
        txid = h.0 ∙ prefix.0;
        given = prefix.1.0;
        written = subst (λ c. Appends (contents prefix.1.0) c (image_text x.shadow.namespace x.shadow.last)) (sym h.1.1.0) took.bytes;
        counted = omega (arith, h.1.1.1, took.counted);
      }

  begun_good : (x : Standby) (w : W) (flow : ControlFlow (Heard W) Begun) → BeganCheckpoint contents x w flow → IsGood x flow
  begun_good x w (Continue b) h = (h.0, (w, begins x.shadow.namespace x.shadow.last (new_writer (contents w)) b.image b.place h.1))
  begun_good x w (Break e) h = λ written. let no : Written ≡ Failed h.1.1 = sym written ∙ h.1.3 in absurd (cc)

  left_good : (x : Standby) (q : O) (flow : ControlFlow (Heard W) Begun) (heard : Option (Heard W)) (p : Checkpointing O) → IsGood x flow → IsLeftWith hears q flow heard p → Tells x heard p.in_hand
  left_good x q (Continue b) heard p good left = (subst (HearsTruth contents hears wants asks x) (sym left.1) tt, subst (λ o. IfSome o (λ b. IsPrefixOf x b)) (sym left.0) good)
  left_good x q (Break e) heard p good left = (subst (HearsTruth contents hears wants asks x) (sym left.1) good, subst (λ o. IfSome o (λ b. IsPrefixOf x b)) (sym left.0) tt)

  none_good : (x : Standby) (q : O) (heard : Option (Heard W)) (p : Checkpointing O) → HasNone {W = W} hears q heard p → Tells x heard p.in_hand
  none_good x q heard p left = (subst (HearsTruth contents hears wants asks x) (sym left.1) tt, subst (λ o. IfSome o (λ b. IsPrefixOf x b)) (sym left.0) tt)

  called_off_good : (x : Standby) (hand : Option Begun) (q : O) (heard : Option (Heard W)) (p : Checkpointing O) → CallsOff contents hears hand q heard p → Tells x heard p.in_hand
  called_off_good x None q heard p left = none_good x q heard p left
  called_off_good x (Some b) q heard p left = left_good x q (Break left.0) heard p (λ written. let no : CalledOff ≡ Written = sym left.1.1 ∙ written in absurd (cc)) left.2

  begins_good : (x : Standby) (due : Option W) (q : O) (heard : Option (Heard W)) (p : Checkpointing O) → BeginsIn contents hears wants due x q heard p → Tells x heard p.in_hand
  begins_good x None q heard p h = none_good x q heard p h
  begins_good x (Some w) q heard p h = left_good x q h.0 heard p (begun_good x w h.0 h.1) h.2

  continues_good : (hand : Option Begun) (rows : ℕ) (x : Standby) (q : O) (heard : Option (Heard W)) (p : Checkpointing O) → IfSome hand (λ b. IsPrefixOf x b) → Continues contents hears wants hand rows x q heard p → Tells x heard p.in_hand
  continues_good None rows x q heard p prefix h = begins_good x h.0 h.1 heard p h.3
  continues_good (Some b) rows x q heard p prefix h = left_good x q h.0 heard p (part_good rows x b h.0 h.1 prefix) h.2

  module _ (o : Checkpointing O) (x : Standby) (running : ℕ) (w : Request) (heard : Option (Heard W)) (p : Checkpointing O) (prefix : IfSome o.in_hand (λ b. IsPrefixOf x b)) (h : Turns contents hears wants asks o x running w heard p) where
    turn_good : Tells x heard p.in_hand
    turn_good = by h.request refl
      where
        by : (v : Request) → h.request ≡ v → Tells x heard p.in_hand
        by Promote e = called_off_good x o.in_hand h.operator heard p (h.promotes e)
        by GoOn e = continues_good o.in_hand o.rows x h.operator heard p prefix (h.goes_on (λ f. absurd (cc)))
        by Forget e = continues_good o.in_hand o.rows x h.operator heard p prefix (h.goes_on (λ f. absurd (cc)))
        by Hold e = continues_good o.in_hand o.rows x h.operator heard p prefix (h.goes_on (λ f. absurd (cc)))
        by ForgetAndHold e = continues_good o.in_hand o.rows x h.operator heard p prefix (h.goes_on (λ f. absurd (cc)))

  -- the log is held while a checkpoint is in hand, unless a promotion is requested
  holds_held : (v : Request) → v ≢ Promote → holds (held v) ≡ true
  holds_held GoOn other = refl
  holds_held Forget other = refl
  holds_held Hold other = refl
  holds_held ForgetAndHold other = refl
  holds_held Promote other = absurd (other refl)

  -- what is in hand was shown last, and the log is held since
  abbrev IsInHand : List Shown → Option Begun → Type 0
  IsInHand [] hand = hand ≡ None
  IsInHand (last ∷ shown) hand = IfSome hand (λ b. IsPrefixOf last.standby b × (holds last.request ≡ true))

  in_hand_next : (old : Standby) (shown : List Shown) (x : Standby) (hand : Option Begun) → IsInHand shown hand → IsNextShown old shown x → IfSome hand (λ b. IsPrefixOf x b)
  in_hand_next old [] x hand none next = subst (λ o. IfSome o (λ b. IsPrefixOf x b)) (sym none) tt
  in_hand_next old (last ∷ shown) x None prefix next = tt
  in_hand_next old (last ∷ shown) x (Some b) prefix next = prefix_later last.standby x b (next.1 prefix.1) prefix.0

  in_hand_left : (x : Shown) (shown : List Shown) (v : Request) (hand : Option Begun) → v ≢ Promote → x.request ≡ request_with hand v → IfSome hand (λ b. IsPrefixOf x.standby b) → IsInHand (x ∷ shown) hand
  in_hand_left x shown v None other requests prefix = tt
  in_hand_left x shown v (Some b) other requests prefix = (prefix, ap holds requests ∙ holds_held v other)

  -- a request that is no promotion comes of one that is none
  no_promotion : (hand : Option Begun) (v w : Request) → w ≡ request_with hand v → w ≢ Promote → v ≢ Promote
  no_promotion None v w e other is = other (e ∙ is)
  no_promotion (Some b) v w e other is = other (e ∙ ap held is)

  module _ (workers : ℕ) (old : Standby) (o : Checkpointing O) (none : o.in_hand ≡ None) where
    each : (shown : List Shown) (p : Checkpointing O) → AreShownInTurn workers old shown → AskedInTurn (asks_of contents hears wants asks) o shown p → AskedInTurn (tells_truly contents hears wants asks) o shown p × IsInHand shown p.in_hand
    each [] p turn goes = (goes, ap (λ (q : Checkpointing O). q.in_hand) goes ∙ none)
    each (x ∷ shown) p turn goes =
        let q = goes.0 in
        let before = each shown q turn.0 goes.1 in
        let now = in_hand_next old shown x.standby q.in_hand before.1 turn.1 in
        let t = goes.3.1 in
        let tells = turn_good q x.standby x.running x.request goes.3.0 p now t in (
          (q, before.0, goes.2, (goes.3.0, t, tells.0)),
          in_hand_left x shown t.request p.in_hand (no_promotion p.in_hand t.request x.request t.requests goes.2) t.requests tells.1,
        )

  pub each_is_the_image : EachIsTheImage contents hears wants asks
  each_is_the_image workers old o p shown none turn goes = (each workers old o none shown p turn goes).0
