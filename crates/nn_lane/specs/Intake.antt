-- The intake core: a lane as a plain value, and the events that change it.
use Rattle.std.specs.Prelude.{◌≡◌, ℕ, ◌+◌, ◌*◌, ◌<◌, ⊤, Bool, true, false, List, [], ◌∷◌, ◌++◌, length}
use Rattle.nn_types.specs.declared.report.Message.{Message}

-- what was accepted, how many of it were taken, and whether the lane is closed
pub record Intake : Type 0 where
  pub accepted : List Message
  pub taken : ℕ
  pub closed : Bool

pub data IntakeEvent : Type 0 where
  Accept : Message → IntakeEvent
  Take : IntakeEvent
  Close : IntakeEvent
  Look : IntakeEvent

abbrev pub no_intake : Intake
no_intake = record { accepted = []; taken = 0; closed = false }

abbrev pub intake_after_event : Intake → IntakeEvent → Intake
intake_after_event c (Accept m) = record { accepted = c.accepted ++ m ∷ []; taken = c.taken; closed = c.closed }
intake_after_event c Take = record { accepted = c.accepted; taken = c.taken + 1; closed = c.closed }
intake_after_event c Close = record { accepted = c.accepted; taken = c.taken; closed = true }
intake_after_event c Look = c

abbrev pub intake_after : Intake → List IntakeEvent → Intake
intake_after c [] = c
intake_after c (e ∷ es) = intake_after (intake_after_event c e) es

-- the event may come, at a lane of n places: a message is accepted while the lane is open and one of its places is free,
-- the first untaken one is taken, and the lane is closed once
abbrev pub May : ℕ → Intake → IntakeEvent → Type 0
May n c (Accept m) = (c.closed ≡ false) × (length c.accepted < c.taken + n)
May n c Take = c.taken < length c.accepted
May n c Close = c.closed ≡ false
May n c Look = ⊤

abbrev pub MayAll : ℕ → Intake → List IntakeEvent → Type 0
MayAll n c [] = ⊤
MayAll n c (e ∷ es) = May n c e × MayAll n (intake_after_event c e) es

abbrev pub bit : Bool → ℕ
bit true = 1
bit false = 0

-- where the two words lie that are used: far enough from each other, and from what lies before and after, to have cache
-- lines of their own
abbrev pub front_word : ℕ
front_word = 8

abbrev pub taken_word : ℕ
taken_word = 24

abbrev pub laid : ℕ → ℕ → List ℕ
laid front taken = 0 ∷ 0 ∷ 0 ∷ 0 ∷ 0 ∷ 0 ∷ 0 ∷ 0 ∷ front ∷ 0 ∷ 0 ∷ 0 ∷ 0 ∷ 0 ∷ 0 ∷ 0 ∷ 0 ∷ 0 ∷ 0 ∷ 0 ∷ 0 ∷ 0 ∷ 0 ∷ 0 ∷ taken ∷ 0 ∷ 0 ∷ 0 ∷ 0 ∷ 0 ∷ 0 ∷ 0 ∷ []

-- the words of the lane's table
abbrev pub words_of : Intake → List ℕ
words_of c = laid (2 * length c.accepted + bit c.closed) c.taken
