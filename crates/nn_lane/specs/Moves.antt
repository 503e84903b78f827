-- The steps of a lane's seats, each as the event of the intake core that it is.
use Rattle.std.specs.Prelude.{◌≡◌, ◌≢◌, ◌==◌, ℕ, ◌+◌, ◌*◌, ◌<◌, ◌^◌, true, false, if◌then◌else◌, List, [], ◌∷◌, ◌++◌, length, slice_index, slice_set, bit_or}
use mathlib.Core.Option.{some, none}
use lib.ListN.{get_elem?}
use prog.Atomic.{either}
use Rattle.atomic_table.specs.Table.{State, Allows, step}
use Rattle.nn_types.specs.declared.report.Message.{Message}
use Rattle.nn_lane.specs.declared.view.Sender.{Sender}
use Rattle.nn_lane.specs.declared.view.Taker.{Taker}
use Rattle.nn_lane.specs.declared.view.View.{View}
use Rattle.nn_lane.specs.Intake.{Intake, IntakeEvent, Accept, Take, Close, Look, front_word, taken_word}
use Rattle.nn_lane.specs.Lane.{Lane, Sat, taker_of, reporter_of, both_of, spent, saw_taken, saw_closed, gave_back, accepted, saw_front, took, shut, learned}

abbrev pub LaneState : Type 0
LaneState = State Message View

-- what the two sides show of the lane
abbrev pub intake_shown : Sender → Taker → Intake
intake_shown r e = record { accepted = r.sent; taken = length e.got; closed = e.closed }

abbrev pub shown_by : (node : ℕ) (s : LaneState) → Lane node s → Intake
shown_by node s h = intake_shown h.1 h.2

-- a seat with the view v makes one step: the word i becomes f of what it was, the seat has a new view, and the step told this
abbrev pub SeatSteps : LaneState → View → ℕ → (ℕ → ℕ) → (Sat → ℕ → Sat → Type 0) → LaneState → Type 0
SeatSteps s v i f told s' = (id : ℕ) × (cs : List (ℕ × Message)) × (m : Sat) × (get_elem? s.views id ≡ some v)
    × (s'.words ≡ slice_set s.words i (f (slice_index s.words i))) × (s'.views ≡ slice_set s.views id m.0) × told (v, cs) (slice_index s.words i) m

abbrev pub IsSender : View → Type 0
IsSender v = (v.sends ≡ true) × (v.takes ≡ false)

abbrev pub IsTaker : View → Type 0
IsTaker v = (v.sends ≡ false) × (v.takes ≡ true)

-- the word `front` while the lane is open
abbrev pub open_front : View → ℕ
open_front v = 2 * length v.sender.sent

-- which step of its seat a call makes: each is one atomic operation on a word of the table
pub data SeatStep : Type 0 where
  SeeTaken : SeatStep  -- `prepare` loads `taken`, where it remembers no place
  SeeClosed : SeatStep  -- `is_closed` loads `front`, unless it was told before
  Send : Message → SeatStep  -- `publish` compare-exchanges `front`
  GiveBack : SeatStep  -- `meet` loads `taken` with the reporter's seat
  SeeFront : SeatStep  -- `take` loads `front`, where it remembers no message
  TakeFirst : SeatStep  -- `take` stores `taken`
  Shut : SeatStep  -- `close` sets the low bit of `front`
  Learn : SeatStep  -- `meet` loads `front` with the seat of both

-- the seat that makes it
abbrev pub IsMadeBy : View → SeatStep → Type 0
IsMadeBy v SeeTaken = IsSender v
IsMadeBy v SeeClosed = IsSender v
IsMadeBy v (Send x) = IsSender v × (v.sender.out ≡ true)
IsMadeBy v GiveBack = IsSender v
IsMadeBy v SeeFront = IsTaker v
IsMadeBy v TakeFirst = IsTaker v
IsMadeBy v Shut = IsTaker v
IsMadeBy v Learn = Unit {0}

-- the word
abbrev pub word_of : SeatStep → ℕ
word_of SeeTaken = taken_word
word_of SeeClosed = front_word
word_of (Send x) = front_word
word_of GiveBack = taken_word
word_of SeeFront = front_word
word_of TakeFirst = taken_word
word_of Shut = front_word
word_of Learn = front_word

-- what becomes of the word
abbrev pub becomes : View → SeatStep → ℕ → ℕ
becomes v SeeTaken t = t
becomes v SeeClosed f = f
becomes v (Send x) f = either (f == open_front v) (open_front v + 2) f
becomes v GiveBack t = t
becomes v SeeFront f = f
becomes v TakeFirst t = length v.taker.got + 1
becomes v Shut f = bit_or f 1
becomes v Learn f = f

-- what the step tells its seat, in a lane of n places
abbrev pub step_tells : ℕ → View → SeatStep → Sat → ℕ → Sat → Type 0
step_tells n v SeeTaken m t = saw_taken (step n taken_word 0 0 none) m t
step_tells n v SeeClosed m f = saw_closed (step n front_word 0 0 none) m f
step_tells n v (Send x) m f = accepted (step n front_word (open_front v) (open_front v + 2) (some x)) m f
step_tells n v GiveBack m t = gave_back (step n taken_word 0 0 none) m t
step_tells n v SeeFront m f = saw_front (step n front_word 0 0 none) m f
step_tells n v TakeFirst m t = took (step n taken_word (length v.taker.got + 1) 0 none) m (length v.taker.got + 1)
step_tells n v Shut m f = shut (step n front_word 1 0 none) m f
step_tells n v Learn m f = learned (step n front_word 0 0 none) m f

-- the event that it is, where the word was found so: sending is one only at an open lane, and closing only the first time
abbrev pub event_of : View → SeatStep → ℕ → IntakeEvent
event_of v SeeTaken t = Look
event_of v SeeClosed f = Look
event_of v (Send x) f = if f == open_front v then Accept x else Look
event_of v GiveBack t = Look
event_of v SeeFront f = Look
event_of v TakeFirst t = Take
event_of v Shut f = if v.taker.closed then Look else Close
event_of v Learn f = Look

-- a seat with the view v makes this step, in a lane of n places
abbrev pub MakesStep : ℕ → LaneState → View → SeatStep → LaneState → Type 0
MakesStep n s v c s' = IsMadeBy v c × SeatSteps s v (word_of c) (becomes v c) (step_tells n v c) s'

-- some seat of a lane of n places makes a step that is this event
abbrev pub Moves : ℕ → LaneState → IntakeEvent → LaneState → Type 0
Moves n s e s' = (v : View) × (c : SeatStep) × MakesStep n s v c s' × (event_of v c (slice_index s.words (word_of c)) ≡ e)

-- one step after another, with the rule kept between them
abbrev pub MovesInTurn : ℕ → ℕ → LaneState → List IntakeEvent → LaneState → Type 0
MovesInTurn node n s [] s' = s' ≡ s
MovesInTurn node n s (e ∷ es) s' = (m : LaneState) × Lane node m × (length m.homes ≡ n) × Moves n s e m × MovesInTurn node n m es s'

-- Wherever a seat is allowed the step, which is what each of the atomic operations asks for, it is that event.
abbrev pub EachStepIsAnEvent : Type 0
EachStepIsAnEvent = (node n id : ℕ) (c : SeatStep) (v : View) (cs : List (ℕ × Message)) → IsMadeBy v c → Allows (Lane node) n id (v, cs) (word_of c) (becomes v c) (step_tells n v c (v, cs))
    → (s : LaneState) → Lane node s → length s.homes ≡ n → get_elem? s.views id ≡ some v → slice_index s.words (word_of c) < 2 ^ 64
    → (s' : LaneState) × Lane node s' × (length s'.homes ≡ n) × Moves n s (event_of v c (slice_index s.words (word_of c))) s'

-- ---- What is no event.

-- the one seat of a new lane is parted in two
abbrev pub PartsSeat : LaneState → LaneState → Type 0
PartsSeat s s' = (id : ℕ) × (v : View) × (get_elem? s.views id ≡ some v) × (v.sends ≡ true) × (v.takes ≡ true) × (v.met ≡ false) × (s'.views ≡ slice_set s.views id (taker_of v) ++ reporter_of v ∷ [])

-- the two seats meet, and one of them is spent
abbrev pub Meets : LaneState → LaneState → Type 0
Meets s s' = (id other : ℕ) × (v w : View) × (get_elem? s.views id ≡ some v) × IsTaker v × (other ≢ id) × (get_elem? (slice_set s.views id (both_of v w)) other ≡ some w) × (s'.views ≡ slice_set (slice_set s.views id (both_of v w)) other spent)
