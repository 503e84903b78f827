-- The rule of a lane's table, and what each step tells.
-- The front word is twice the number of accepted messages, plus 1 where the lane is closed. The other is the number of taken ones. Message k + 1 lies in slot k % slots.
use Rattle.std.specs.Prelude.{◌≡◌, ◌≢◌, ◌⊎◌, ℕ, ◌+◌, ◌*◌, ◌/◌, ◌%◌, ◌<◌, ◌≤◌, Bool, true, false, nat_lt, List, [], ◌∷◌, ◌++◌, length, Option, Some, None, MatchBool}
use mathlib.Core.Option.{some}
use mathlib.Core.Option as maybe
use lib.ListN.{get_elem?}
use Rattle.atomic_table.specs.Table.{State, Me, Step, rest}
use Rattle.nn_types.specs.declared.report.Message.{Message}
use Rattle.nn_lane.specs.declared.view.Sender.{Sender}
use Rattle.nn_lane.specs.declared.view.Taker.{Taker}
use Rattle.nn_lane.specs.declared.view.View.{View}
use Rattle.nn_lane.specs.Ends.{StartsWith}
use Rattle.nn_lane.specs.Intake.{bit, laid}

abbrev pub new_sender : ℕ → Sender
new_sender node = record { node = node; sent = []; seen = 0; loads = 0; checks = 0; out = false; told = false }

abbrev pub new_taker : ℕ → Taker
new_taker node = record { node = node; got = []; seen = 0; loads = 0; next = None; closed = false }

-- the one seat at the start shows both sides
abbrev pub opening_view : ℕ → View
opening_view node = record { sends = true; takes = true; met = false; sender = new_sender node; taker = new_taker node }

-- the one seat is parted in two: the taker's and the reporter's
abbrev pub taker_of : View → View
taker_of v = record v { sends = false; takes = true; met = false }

abbrev pub reporter_of : View → View
reporter_of v = record v { sends = true; takes = false; met = false }

-- they meet again: the taker's seat shows both sides, and the reporter's is spent
abbrev pub both_of : View → View → View
both_of v w = record { sends = true; takes = true; met = true; sender = w.sender; taker = v.taker }

abbrev pub spent : View
spent = record { sends = false; takes = false; met = true; sender = new_sender 0; taker = new_taker 0 }

abbrev pub with_sender : View → Sender → View
with_sender v r = record v { sender = r }

abbrev pub with_taker : View → Taker → View
with_taker v e = record v { taker = e }

abbrev pub IsBoth : Bool → View → Sender → Taker → Type 0
IsBoth met v r e = (v.sends ≡ true) × (v.takes ≡ true) × (v.met ≡ met) × (v.sender ≡ r) × (v.taker ≡ e)

abbrev pub HasTaker : View → Taker → Type 0
HasTaker v e = (v.sends ≡ false) × (v.takes ≡ true) × (v.taker ≡ e)

abbrev pub IsReporter : View → Sender → Type 0
IsReporter v r = (v.sends ≡ true) × (v.takes ≡ false) × (v.sender ≡ r)

abbrev pub IsSpent : View → Type 0
IsSpent v = (v.sends ≡ false) × (v.takes ≡ false)

-- the seats: one at the start, then the taker's and the sender's, and one again at the end, beside a spent one
abbrev pub Seated : List View → Sender → Taker → Type 0
Seated [] r e = ⊥
Seated (v ∷ []) r e = IsBoth false v r e
Seated (v ∷ w ∷ []) r e = (HasTaker v e × IsReporter w r) ⊎ (IsBoth true v r e × IsSpent w)
Seated (v ∷ w ∷ x ∷ vs) r e = ⊥

abbrev pub away : Option Message → Bool
away None = false
away (Some m) = true

-- the facts between any two steps, of a table with n slots: what was sent is what was taken and then what is left, which
-- fits the slots; message k + 1 lies in slot k % n, except that the first one that is left may be out with the taker; every other
-- slot is at home, except the one that is out with the sender, whose message then has room; a count that an end saw is one that
-- was true; of a closed lane the taker saw all that was sent, and the sender was told only of a close
pub record LaneFacts (node n : ℕ) (words : List ℕ) (homes : List (maybe.Option Message)) (r : Sender) (e : Taker) : Type 0 where
  pub left : List Message
  pub as_long : length homes ≡ n
  pub some_slot : 0 < n
  pub words_are : words ≡ laid (2 * length r.sent + bit e.closed) (length e.got)
  pub split : r.sent ≡ e.got ++ left
  pub within : length left ≤ n
  pub numbered : (k : ℕ) (m : Message) → get_elem? r.sent k ≡ some m → (m.number ≡ k + 1) × (m.dn ≡ node)
  pub nodes : (r.node ≡ node) × (e.node ≡ node)
  pub seen_taken : r.seen ≤ length e.got
  pub fits : r.out ≡ true → length r.sent < r.seen + n
  pub seen_low : length e.got ≤ e.seen
  pub seen_high : e.seen ≤ length r.sent
  pub closed : e.closed ≡ true → e.seen ≡ length r.sent
  pub told : r.told ≡ true → e.closed ≡ true
  pub next : (m : Message) → e.next ≡ Some m → get_elem? left 0 ≡ some m
  pub ahead : (m : Message) → e.next ≡ Some m → length e.got < e.seen
  pub lies : (k : ℕ) (m : Message) → get_elem? left k ≡ some m → (away e.next ≡ true → 0 < k) → get_elem? homes ((length e.got + k) % n) ≡ some (some m)
  pub vacant : (i : ℕ) → i < n → (r.out ≡ true → i ≢ length r.sent % n) → (away e.next ≡ true → i ≢ length e.got % n) → (y : Message) × (get_elem? homes i ≡ some (some y))

-- the rule: a table of this DataNode's lane shows two sides, of which the facts hold
abbrev pub Lane : ℕ → State Message View → Type 0
Lane node s = (n : ℕ) × (r : Sender) × (e : Taker) × Seated s.views r e × LaneFacts node n s.words s.homes r e

-- a seat: its view, and the slots that it has out
abbrev pub Sat : Type 0
Sat = Me Message View

-- the slot of its next message is out with the reporter, or not
abbrev pub holding : Sender → Bool → Sender
holding r out = record r { out = out }

abbrev pub with_next : Taker → Option Message → Taker
with_next e o = record e { next = o }

-- the reporter loads `taken`, and takes the slot of the next message where there is room
abbrev pub looked : Sender → ℕ → Bool → Sender
looked r n out = record r { seen = n; loads = r.loads + 1; out = out }

-- what the seat holds beside the slot of the next message
abbrev pub beside : Bool → List (ℕ × Message) → List (ℕ × Message)
beside true cs = rest cs
beside false cs = cs

abbrev pub SawTaken : Bool → Step Message → Sat → ℕ → Sat → Type 0
SawTaken room st m n m' = (length m.0.sender.sent ≤ n + st.slots)
    × (m.0.sender.seen ≤ n) × (n ≤ length m.0.sender.sent)
    × (m.0.sender.out ≡ true → length m.0.sender.sent < n + st.slots)
    × (m'.0 ≡ with_sender m.0 (looked m.0.sender n room))
    × MatchBool room ((y : Message) × (m'.1 ≡ (length m.0.sender.sent % st.slots, y) ∷ beside m.0.sender.out m.1)) (m'.1 ≡ m.1)

abbrev pub saw_taken : Step Message → Sat → ℕ → Sat → Type 0
saw_taken st m n m' = SawTaken (nat_lt (length m.0.sender.sent) (n + st.slots)) st m n m'

-- the reporter loads `front`: where the lane is closed it is told, and else all is as it was
abbrev pub checked : Sender → Bool → Sender
checked r told = record r { checks = r.checks + 1; told = told }

abbrev pub saw_closed : Step Message → Sat → ℕ → Sat → Type 0
saw_closed st m n m' = (m'.1 ≡ m.1)
    × (n ≡ 2 * length m.0.sender.sent → m'.0 ≡ with_sender m.0 (checked m.0.sender m.0.sender.told))
    × (n ≢ 2 * length m.0.sender.sent → m'.0 ≡ with_sender m.0 (checked m.0.sender true))

-- the reporter loads `taken` at the end, and a slot that is out goes home
abbrev pub gave_back : Step Message → Sat → ℕ → Sat → Type 0
gave_back st m n m' = (m'.0 ≡ with_sender m.0 (looked m.0.sender n false)) × (m'.1 ≡ beside m.0.sender.out m.1) × (m.0.sender.seen ≤ n)

-- the reporter compare-exchanges `front`: the message is sent, its slot goes back, and the next one is taken where the
-- reporter remembers that there is room; or the lane is closed, and the slot stays out
abbrev pub sent_more : Sender → Message → Bool → Sender
sent_more r x out = record r { sent = r.sent ++ x ∷ []; out = out }

abbrev pub was_told : Sender → Sender
was_told r = record r { told = true }

abbrev pub SentMore : Bool → Step Message → Message → Sat → Sat → Type 0
SentMore room st x m m' = (m'.0 ≡ with_sender m.0 (sent_more m.0.sender x room))
    × MatchBool room ((y : Message) × (m'.1 ≡ ((length m.0.sender.sent + 1) % st.slots, y) ∷ rest m.1)) (m'.1 ≡ rest m.1)

abbrev pub accepted : Step Message → Sat → ℕ → Sat → Type 0
accepted st m n m' = (n ≡ st.first → (x : Message) × (st.said ≡ some x) × SentMore (nat_lt (length m.0.sender.sent + 1) (m.0.sender.seen + st.slots)) st x m m')
    × (n ≢ st.first → (m'.0 ≡ with_sender m.0 (was_told m.0.sender)) × (m'.1 ≡ m.1))

-- after each step of the other end the slot of its next message, the (k + 1)-th, is out with it exactly where it knows of one
abbrev pub NextOut : Bool → ℕ → ℕ → (Option Message → Taker) → List (ℕ × Message) → Sat → Sat → Type 0
NextOut true k slots f cs m m' = (x : Message) × (m'.0 ≡ with_taker m.0 (f (Some x))) × (m'.1 ≡ (k % slots, x) ∷ cs) × (x.number ≡ k + 1) × (x.dn ≡ m.0.taker.node)
NextOut false k slots f cs m m' = (m'.0 ≡ with_taker m.0 (f None)) × (m'.1 ≡ cs)

-- the other end loads `front`, and takes the slot of the first untaken message
abbrev pub saw : Taker → ℕ → Option Message → Taker
saw e n x = record e { seen = n; loads = e.loads + 1; next = x }

abbrev pub SawFront : Bool → ℕ → Step Message → Sat → Sat → Type 0
SawFront some_left q st m m' = (length m.0.taker.got ≤ q) × (m.0.taker.seen ≤ q) × (m.0.taker.closed ≡ true → q ≡ m.0.taker.seen)
    × NextOut some_left (length m.0.taker.got) st.slots (saw m.0.taker q) m.1 m m'

abbrev pub saw_front : Step Message → Sat → ℕ → Sat → Type 0
saw_front st m n m' = SawFront (nat_lt (length m.0.taker.got) (n / 2)) (n / 2) st m m'

-- it stores `taken`, gives the slot back, and takes the next one where it remembers a message there
abbrev pub got_more : Taker → Message → Option Message → Taker
got_more e x o = record e { got = e.got ++ x ∷ []; next = o }

abbrev pub TookNext : Bool → Step Message → Message → Sat → Sat → Type 0
TookNext some_left st x m m' = NextOut some_left (length m.0.taker.got + 1) st.slots (got_more m.0.taker x) (rest m.1) m m'

abbrev pub took : Step Message → Sat → ℕ → Sat → Type 0
took st m n m' = (x : Message) × (m.0.taker.next ≡ Some x) × TookNext (nat_lt (length m.0.taker.got + 1) m.0.taker.seen) st x m m'

-- it sets the low bit of `front`: the lane is closed
abbrev pub closed_at : Taker → ℕ → Option Message → Taker
closed_at e n o = record e { seen = n; next = o; closed = true }

abbrev pub Shuts : Bool → ℕ → Step Message → Sat → Sat → Type 0
Shuts some_left q st m m' = (length m.0.taker.got ≤ q) × (m.0.taker.seen ≤ q) × (m.0.taker.closed ≡ true → q ≡ m.0.taker.seen)
    × NextOut some_left (length m.0.taker.got) st.slots (closed_at m.0.taker q) (beside (away m.0.taker.next) m.1) m m'

abbrev pub shut : Step Message → Sat → ℕ → Sat → Type 0
shut st m n m' = Shuts (nat_lt (length m.0.taker.got) (n / 2)) (n / 2) st m m'

-- what the joined seat learns of its own view
abbrev pub learned : Step Message → Sat → ℕ → Sat → Type 0
learned st m n m' = (m' ≡ m) × (n / 2 ≡ length m.0.sender.sent) × StartsWith m.0.sender.sent m.0.taker.got
    × (m.0.taker.closed ≡ true → m.0.taker.seen ≡ length m.0.sender.sent) × (m.0.sender.told ≡ true → m.0.taker.closed ≡ true)
    × (m.0.sender.seen ≤ length m.0.taker.got) × (m.0.taker.seen ≤ length m.0.sender.sent)
