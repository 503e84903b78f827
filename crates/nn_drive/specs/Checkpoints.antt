-- Checkpoints that are written in parts for an operator, while it holds the log.
use Rattle.std.specs.Prelude.{◌≡◌, ◌≢◌, ℕ, List, false, length, Option, Some, None, IfSome}
use Rattle.std.specs.declared.ops.ControlFlow.{ControlFlow}
use Rattle.std.specs.declared.ops.ControlFlow.TheVariants.{Continue, Break}
use Rattle.std.specs.Io.KnownBytes.{Appends}
use Rattle.nn_device.specs.Device.{Writer}
use Rattle.nn_image.specs.InParts.{WroteHeader, IsRest, Place, WrotePart, rest_text}
use Rattle.nn_image.specs.Saving.{WrotePrefix}
use Rattle.nn_image.specs.Text.{image_text}
use Rattle.nn_image.specs.declared.fault.SaveFault.{SaveFault}
use Rattle.nn_lane_standby.specs.Tailing.{Standby}
use Rattle.nn_drive.specs.Serving.{Shown, AreShownInTurn, AskedInTurn}
use Rattle.nn_drive.specs.declared.checkpointing.EndedCheckpoint.{EndedCheckpoint}
use Rattle.nn_drive.specs.declared.checkpointing.CheckpointOutcome.{CheckpointOutcome}
use Rattle.nn_drive.specs.declared.checkpointing.CheckpointOutcome.TheVariants.{Written, CalledOff, Failed}
use Rattle.nn_drive.specs.declared.operator.Request.{Request}
use Rattle.nn_drive.specs.declared.operator.Request.TheVariants.{GoOn, Forget, Hold, ForgetAndHold, Promote}

-- a checkpoint in hand: its last transaction, where it goes on, and what it is written into
pub record Begun : Type 0 where
  pub txid : ℕ
  pub place : Place
  pub image : Writer

-- an operator, how many paths a part has at most, and the checkpoint in hand
pub record Checkpointing (O : Type 0) : Type 0 where
  pub operator : O
  pub rows : ℕ
  pub in_hand : Option Begun

-- what an operator hears of a checkpoint: it gets the writer back, and is told how the checkpoint ended
abbrev pub Heard : Type 0 → Type 0
Heard W = W × EndedCheckpoint

-- what an operator requests, and that the log be held
abbrev pub held : Request → Request
held GoOn = Hold
held Forget = ForgetAndHold
held Hold = Hold
held ForgetAndHold = ForgetAndHold
held Promote = Promote

-- while a checkpoint is in hand the log is held
abbrev pub request_with : Option Begun → Request → Request
request_with None request = request
request_with (Some b) request = held request

-- nothing was written into it
abbrev pub new_writer : Option (List ℕ) → Writer
new_writer contents = record { contents = contents; taken = 0; failed = false }

-- how a part ends a checkpoint: its rest was written, or a prefix of that
abbrev pub EndsAs : CheckpointOutcome → ℕ → Standby → Begun → Writer → Type 0
EndsAs Written rows x b image = IsRest x.shadow.namespace rows b.place b.image image
EndsAs (Failed fault) rows x b image = WrotePrefix b.image image (rest_text b.place x.shadow.namespace) fault
EndsAs CalledOff rows x b image = ⊥

module _ {W : Type 0} (contents : W → Option (List ℕ)) where
  -- so much was written into what the operator gets back
  abbrev pub HasWritten : Writer → Heard W → Type 0
  HasWritten image e = (contents e.0 ≡ image.contents) × (e.1.bytes ≡ image.taken)

  -- a promotion called it off
  abbrev pub IsCalledOff : Begun → Heard W → Type 0
  IsCalledOff b e = (e.1.txid ≡ b.txid) × (e.1.outcome ≡ CalledOff) × HasWritten b.image e

  -- a part of the checkpoint was written, or that ended it
  abbrev pub IsCheckpointPart : ℕ → Standby → Begun → ControlFlow (Heard W) Begun → Type 0
  IsCheckpointPart rows x b (Continue c) = (c.txid ≡ b.txid) × WrotePart x.shadow.namespace rows b.place b.image c.image c.place
  IsCheckpointPart rows x b (Break e) = (e.1.txid ≡ b.txid) × ((image : Writer) × HasWritten image e × EndsAs e.1.outcome rows x b image)

  -- a checkpoint of this standby was begun in what its operator gave for it, or failed at once
  abbrev pub BeganCheckpoint : Standby → W → ControlFlow (Heard W) Begun → Type 0
  BeganCheckpoint x w (Continue b) = (b.txid ≡ x.shadow.last) × WroteHeader x.shadow.namespace x.shadow.last (new_writer (contents w)) b.image b.place
  BeganCheckpoint x w (Break e) =
      (e.1.txid ≡ x.shadow.last)
      × ((image : Writer) × (fault : SaveFault) × HasWritten image e × (e.1.outcome ≡ Failed fault) × WrotePrefix (new_writer (contents w)) image (image_text x.shadow.namespace x.shadow.last) fault)

  -- the image of this standby's namespace, and nothing else, was written into what an operator gave for it
  pub record IsImageOf (x : Standby) (e : Heard W) : Type 0 where
    pub txid : e.1.txid ≡ x.shadow.last
    pub given : W
    pub written : Appends (contents given) (contents e.0) (image_text x.shadow.namespace x.shadow.last)
    pub counted : e.1.bytes ≡ length (image_text x.shadow.namespace x.shadow.last)

module _ {O W : Type 0} (hears : O → W → EndedCheckpoint → O → Type 0) where
  -- the checkpoint is in hand, or it ended, and the operator heard how
  abbrev pub IsLeftWith : O → ControlFlow (Heard W) Begun → Option (Heard W) → Checkpointing O → Type 0
  IsLeftWith o (Continue b) heard p = (p.in_hand ≡ Some b) × (heard ≡ None) × (p.operator ≡ o)
  IsLeftWith o (Break e) heard p = (p.in_hand ≡ None) × (heard ≡ Some e) × hears o e.0 e.1 p.operator

  -- none is in hand, and the operator heard nothing
  abbrev pub HasNone : O → Option (Heard W) → Checkpointing O → Type 0
  HasNone o heard p = (p.in_hand ≡ None) × (heard ≡ None) × (p.operator ≡ o)

module _ {O W : Type 0} (contents : W → Option (List ℕ)) (hears : O → W → EndedCheckpoint → O → Type 0) where
  -- a checkpoint in hand is called off
  abbrev pub CallsOff : Option Begun → O → Option (Heard W) → Checkpointing O → Type 0
  CallsOff None o heard p = HasNone hears o heard p
  CallsOff (Some b) o heard p = (e : Heard W) × IsCalledOff contents b e × IsLeftWith hears o (Break e) heard p

  module _ (wants : O → Standby → Option W → O → Type 0) where
    -- where the operator wants a checkpoint, it is begun in what it gave for that
    abbrev pub BeginsIn : Option W → Standby → O → Option (Heard W) → Checkpointing O → Type 0
    BeginsIn None x o heard p = HasNone hears o heard p
    BeginsIn (Some w) x o heard p = (flow : ControlFlow (Heard W) Begun) × BeganCheckpoint contents x w flow × IsLeftWith hears o flow heard p

    -- the checkpoint in hand goes on by a part; where none is, the operator is asked whether it wants one
    abbrev pub Continues : Option Begun → ℕ → Standby → O → Option (Heard W) → Checkpointing O → Type 0
    Continues None rows x o heard p = (due : Option W) × (q : O) × wants o x due q × BeginsIn due x q heard p
    Continues (Some b) rows x o heard p = (flow : ControlFlow (Heard W) Begun) × IsCheckpointPart contents rows x b flow × IsLeftWith hears o flow heard p

    module _ (asks : O → Standby → ℕ → Request → O → Type 0) where
      -- It was asked about a standby. It asked its operator first, which heard this of a checkpoint then
      pub record Turns (o : Checkpointing O) (x : Standby) (running : ℕ) (w : Request) (heard : Option (Heard W)) (p : Checkpointing O) : Type 0 where
        pub request : Request
        pub operator : O
        pub asked : asks o.operator x running request operator
        pub promotes : request ≡ Promote → CallsOff o.in_hand operator heard p
        pub goes_on : request ≢ Promote → Continues o.in_hand o.rows x operator heard p
        pub requests : w ≡ request_with p.in_hand request
        pub rows : p.rows ≡ o.rows

      abbrev pub asks_of : Checkpointing O → Standby → ℕ → Request → Checkpointing O → Type 0
      asks_of o x running w p = (heard : Option (Heard W)) × Turns o x running w heard p

      -- ---- Over a whole service.

      -- what the operator heard, if it heard something, is true
      abbrev pub HearsTruth : Standby → Option (Heard W) → Type 0
      HearsTruth x heard = IfSome heard (λ e. e.1.outcome ≡ Written → IsImageOf contents x e)

      abbrev pub tells_truly : Checkpointing O → Standby → ℕ → Request → Checkpointing O → Type 0
      tells_truly o x running w p = (heard : Option (Heard W)) × Turns o x running w heard p × HearsTruth x heard

      -- Whoever asks it about each standby in turn, from when it had none in hand: at each turn its operator hears the truth
      abbrev pub EachIsTheImage : Type 0
      EachIsTheImage =
          (workers : ℕ) (old : Standby) (o p : Checkpointing O) (shown : List Shown) → o.in_hand ≡ None → AreShownInTurn workers old shown → AskedInTurn asks_of o shown p → AskedInTurn tells_truly o shown p
