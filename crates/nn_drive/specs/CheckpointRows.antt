-- Turns of an operator whose checkpoints are written in parts, computed.
use Rattle.std.specs.Prelude.{◌≡◌, ◌≢◌, ℕ, ◌+◌, ◌<◌, List, [], ◌∷◌, length, Option, Some, None, refl}
use Rattle.std.specs.declared.ops.ControlFlow.TheVariants.{Continue, Break}
use Rattle.std.proofs.Common.{arith, ap, sym, ◌∙◌}
use Rattle.nn_device.specs.Device.{Writer}
use Rattle.nn_image.specs.InParts.{Place, behind_part}
use Rattle.nn_image.specs.Text.{image_text}
use Rattle.nn_lane_standby.specs.Tailing.{Standby}
use Rattle.nn_drive.specs.Checkpoints.{Begun, Checkpointing, Heard, held, request_with, IsCalledOff, EndsAs, IsCheckpointPart, BeganCheckpoint, IsLeftWith, HasNone, CallsOff, BeginsIn, Continues, Turns, IsImageOf, HearsTruth}
use Rattle.nn_drive.specs.declared.checkpointing.EndedCheckpoint.{EndedCheckpoint}
use Rattle.nn_drive.specs.declared.checkpointing.CheckpointOutcome.TheVariants.{Written, CalledOff, Failed}
use Rattle.nn_drive.specs.declared.operator.Request.{Request}
use Rattle.nn_drive.specs.declared.operator.Request.TheVariants.{GoOn, Forget, Hold, ForgetAndHold, Promote}

-- the log is held while a checkpoint is in hand, and what was requested besides is done
holds_while_in_hand : (b : Begun) → (request_with (Some b) GoOn ≡ Hold) × (request_with (Some b) Forget ≡ ForgetAndHold) × (request_with (Some b) Hold ≡ Hold) × (request_with (Some b) ForgetAndHold ≡ ForgetAndHold)
holds_while_in_hand b = (refl, refl, refl, refl)

goes_on_with_none : (w : Request) → request_with None w ≡ w
goes_on_with_none w = refl

-- ---- An operator that requests that the standby goes on, up to its third rotation, which wants one checkpoint, and counts what it hears.

abbrev asks : ℕ → Standby → ℕ → Request → ℕ → Type 0
asks o x n w p = (o < 3 → w ≡ GoOn) × (3 < o + 1 → w ≡ Promote) × (p ≡ o + 1)

abbrev wants : ℕ → Standby → Option ℕ → ℕ → Type 0
wants o x due p = (due ≡ Some 7) × (p ≡ o)

abbrev hears : ℕ → ℕ → EndedCheckpoint → ℕ → Type 0
hears o w e p = p ≡ o + 10

abbrev contents : ℕ → Option (List ℕ)
contents w = Some (w ∷ [])

abbrev with_one : ℕ → Begun → Checkpointing ℕ
with_one o b = record { operator = o; rows = 2; in_hand = Some b }

abbrev with_none : ℕ → Checkpointing ℕ
with_none o = record { operator = o; rows = 2; in_hand = None }

-- how it is told that the checkpoint was called off
abbrev told : Begun → Heard ℕ
told b = (7, record { txid = b.txid; bytes = b.image.taken; outcome = CalledOff })

-- a promotion calls off what is in hand, and it is told so
called_off_at_a_promotion : (b : Begun) (x : Standby) → b.image.contents ≡ Some (7 ∷ []) → Turns contents hears wants asks (with_one 3 b) x 1 Promote (Some (told b)) (with_none 14)
called_off_at_a_promotion b x has = record {
  request = Promote;
  operator = 4;
  asked = (λ few. absurd (omega (arith, few)), λ _. refl, refl);
  promotes = λ _. (told b, (refl, refl, (sym has, refl)), (refl, refl, refl));
  goes_on = λ other. absurd (other refl);
  requests = refl;
  rows = refl;
}

not_called_off_in_silence : (b : Begun) (q : ℕ) (p : Checkpointing ℕ) → CallsOff contents hears (Some b) q None p → ⊥
not_called_off_in_silence b q p h = let e : ◌≡◌ {A = Option (Heard ℕ)} None (Some h.0) = h.2.1 in cc

not_called_off_as_written : (b : Begun) (e : Heard ℕ) → e.1.outcome ≡ Written → IsCalledOff contents b e → ⊥
not_called_off_as_written b e written h = let is : Written ≡ CalledOff = sym written ∙ h.1 in cc

not_called_off_with_fewer_bytes : (b : Begun) (e : Heard ℕ) → b.image.taken ≡ e.1.bytes + 1 → IsCalledOff contents b e → ⊥
not_called_off_with_fewer_bytes b e more h = omega (arith, more, h.2.1)

not_called_off_with_another_writer : (b : Begun) (e : Heard ℕ) → b.image.contents ≡ Some (7 ∷ []) → e.0 ≡ 8 → IsCalledOff contents b e → ⊥
not_called_off_with_another_writer b e seven eight h = let is : ◌≡◌ {A = Option (List ℕ)} (Some (8 ∷ [])) (Some (7 ∷ [])) = sym (ap contents eight) ∙ h.2.0 ∙ seven in cc

not_called_off_and_kept : (b : Begun) (q : ℕ) (heard : Option (Heard ℕ)) (p : Checkpointing ℕ) → p.in_hand ≡ Some b → CallsOff contents hears (Some b) q heard p → ⊥
not_called_off_and_kept b q heard p kept h = let e : Some b ≡ None = sym kept ∙ h.2.0 in cc

-- a promotion is passed on at once
not_kept_from_a_promotion : (o p : Checkpointing ℕ) (x : Standby) (w : Request) (heard : Option (Heard ℕ)) → o.operator ≡ 3 → w ≢ Promote → Turns contents hears wants asks o x 1 w heard p → ⊥
not_kept_from_a_promotion o p x w heard three other h =
    let requested : h.request ≡ Promote = h.asked.1 (omega (arith, three)) in
    let none : p.in_hand ≡ None = hand o.in_hand (h.promotes requested) in
    other (h.requests ∙ ap (λ i. request_with i h.request) none ∙ requested)
  where
    hand : (i : Option Begun) → CallsOff contents hears i h.operator heard p → p.in_hand ≡ None
    hand None c = c.0
    hand (Some b) c = c.2.0

-- the log is not let go while a checkpoint is in hand
not_let_go : (o p : Checkpointing ℕ) (b : Begun) (x : Standby) (heard : Option (Heard ℕ)) → p.in_hand ≡ Some b → Turns contents hears wants asks o x 1 GoOn heard p → ⊥
not_let_go o p b x heard hand h = by h.request (h.requests ∙ ap (λ i. request_with i h.request) hand)
  where
    by : (v : Request) → GoOn ≡ held v → ⊥
    by GoOn e = absurd (cc)
    by Forget e = absurd (cc)
    by Hold e = absurd (cc)
    by ForgetAndHold e = absurd (cc)
    by Promote e = absurd (cc)

-- ---- Steps of a checkpoint.

-- it is not ended as written while a path is left
not_written_with_a_path_left : (rows : ℕ) (x : Standby) (b : Begun) (image : Writer) → 0 < length (behind_part rows b.place x.shadow.namespace) → EndsAs Written rows x b image → ⊥
not_written_with_a_path_left rows x b image left h = omega (arith, left, ap length h.none_left)

-- nor is it called off by a part
not_called_off_by_a_part : (rows : ℕ) (x : Standby) (b : Begun) (image : Writer) → EndsAs CalledOff rows x b image → ⊥
not_called_off_by_a_part rows x b image h = h

-- it does not go on where no path is left
not_in_hand_with_none_left : (rows : ℕ) (x : Standby) (b c : Begun) → behind_part rows b.place x.shadow.namespace ≡ [] → IsCheckpointPart contents rows x b (Continue c) → ⊥
not_in_hand_with_none_left rows x b c none h = omega (arith, h.1.left, ap length none)

-- its transaction stays
not_of_a_later_transaction : (rows : ℕ) (x : Standby) (b c : Begun) → c.txid ≡ b.txid + 1 → IsCheckpointPart contents rows x b (Continue c) → ⊥
not_of_a_later_transaction rows x b c later h = omega (arith, later, h.0)

not_told_of_a_later_transaction : (rows : ℕ) (x : Standby) (b : Begun) (e : Heard ℕ) → e.1.txid ≡ b.txid + 1 → IsCheckpointPart contents rows x b (Break e) → ⊥
not_told_of_a_later_transaction rows x b e later h = omega (arith, later, h.0)

not_begun_at_another_transaction : (x : Standby) (w : ℕ) (b : Begun) → b.txid ≡ x.shadow.last + 1 → BeganCheckpoint contents x w (Continue b) → ⊥
not_begun_at_another_transaction x w b later h = omega (arith, later, h.0)

not_begun_behind_the_first_path : (x : Standby) (w : ℕ) (b : Begun) → b.place.count ≡ 1 → BeganCheckpoint contents x w (Continue b) → ⊥
not_begun_behind_the_first_path x w b one h = let e : 1 ≡ 0 = sym one ∙ ap (λ (s : Place). s.count) h.1.place in omega (arith, e)

not_written_at_once : (x : Standby) (w : ℕ) (e : Heard ℕ) → e.1.outcome ≡ Written → BeganCheckpoint contents x w (Break e) → ⊥
not_written_at_once x w e written h = let no : Written ≡ Failed h.1.1 = sym written ∙ h.1.3 in cc

-- in a rotation in which no checkpoint ended, the operator hears nothing and is not asked again
not_told_of_what_is_in_hand : (q : ℕ) (b : Begun) (heard : Option (Heard ℕ)) (p : Checkpointing ℕ) → p.operator ≡ q + 10 → IsLeftWith hears q (Continue b) heard p → ⊥
not_told_of_what_is_in_hand q b heard p ten h = omega (arith, ten, h.2)

not_asked_twice : (q : ℕ) (heard : Option (Heard ℕ)) (p : Checkpointing ℕ) → p.operator ≡ q + 1 → HasNone hears q heard p → ⊥
not_asked_twice q heard p twice h = omega (arith, twice, h.2)

-- none is begun that was not wanted
not_begun_unwanted : (x : Standby) (q : ℕ) (heard : Option (Heard ℕ)) (p : Checkpointing ℕ) → Continues contents hears (λ o y due r. (due ≡ None) × (r ≡ o)) None 2 x q heard p → p.in_hand ≡ None
not_begun_unwanted x q heard p h = by h.0 h.2.0 h.3
  where
    by : (due : Option ℕ) → due ≡ None → BeginsIn contents hears (λ o y due r. (due ≡ None) × (r ≡ o)) due x h.1 heard p → p.in_hand ≡ None
    by None e b = b.0
    by (Some w) e b = absurd (cc)

-- ---- What is told as written.

not_the_image_of_another_transaction : (x : Standby) (e : Heard ℕ) → e.1.txid ≡ x.shadow.last + 1 → IsImageOf contents x e → ⊥
not_the_image_of_another_transaction x e later h = omega (arith, later, h.txid)

-- all that was written is the image
not_the_image_and_more : (x : Standby) (e : Heard ℕ) → e.1.bytes ≡ length (image_text x.shadow.namespace x.shadow.last) + 1 → IsImageOf contents x e → ⊥
not_the_image_and_more x e more h = omega (arith, more, h.counted)

-- what is told as written is true, and of what is not written nothing is said
not_true_of_another_transaction : (x : Standby) (e : Heard ℕ) → e.1.outcome ≡ Written → e.1.txid ≡ x.shadow.last + 1 → HearsTruth contents hears wants asks x (Some e) → ⊥
not_true_of_another_transaction x e written later h = not_the_image_of_another_transaction x e later (h written)

true_where_nothing_was_heard : (x : Standby) → HearsTruth contents hears wants asks x None
true_where_nothing_was_heard x = tt
