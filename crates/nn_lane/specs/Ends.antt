-- What contracts see of the two ends of a lane, and what their calls do.
use Rattle.std.specs.Prelude.{◌≡◌, ◌⊎◌, ℕ, ◌+◌, ◌^◌, ◌<◌, ◌≤◌, Bool, true, false, Option, Some, None, List, [], ◌∷◌, ◌++◌, length, MatchBool}
use Rattle.atomic_table.specs.Seated.{TableId}
use Rattle.nn_types.specs.declared.report.Message.{Message}
use Rattle.nn_types.specs.declared.report.Kind.{Kind}
use Rattle.nn_lane.specs.declared.fault.Refusal.{Refusal}
use Rattle.nn_lane.specs.declared.fault.Refusal.TheVariants.{Closed, Exhausted, Full}
use Rattle.nn_lane.specs.declared.message.Taken.{Taken}
use Rattle.nn_lane.specs.declared.message.Taken.TheVariants as taken
use Rattle.nn_lane.specs.declared.message.Published.{Published}
use Rattle.nn_lane.specs.declared.message.Published.TheVariants as published

-- which lane it is: the table that it is made of, and the DataNode
pub record LaneId : Type 0 where
  pub table : TableId
  pub node : ℕ

-- how many messages it holds at most
abbrev pub capacity_of : LaneId → ℕ
capacity_of l = l.table.slots

-- the end that sends: all that it sent, oldest first, and the message that it prepared; how often it looked at the
-- other end for a place, and how many messages were taken when it last did; how often it looked whether the lane is
-- closed, and whether it was told so
pub record Reporter : Type 0 where
  pub lane : LaneId
  pub sent : List Message
  pub prepared : Option Message
  pub seen : ℕ
  pub loads : ℕ
  pub checks : ℕ
  pub told : Bool

-- the end that takes: what was taken, oldest first; how often it looked at the other end to take, and how many messages
-- were accepted when it last looked; whether it closed the lane
pub record LaneEnd : Type 0 where
  pub lane : LaneId
  pub got : List Message
  pub seen : ℕ
  pub loads : ℕ
  pub closed : Bool

-- ---- What callers use of an end, whatever the lane is made of.

abbrev pub lane_of : LaneEnd → LaneId
lane_of e = e.lane

abbrev pub node_of : LaneEnd → ℕ
node_of e = e.lane.node

abbrev pub got_of : LaneEnd → List Message
got_of e = e.got

-- how often it looked for a message to take
abbrev pub loads_of : LaneEnd → ℕ
loads_of e = e.loads

-- how many messages are known; of a closed lane, how many it carries in all
abbrev pub known_count : LaneEnd → ℕ
known_count e = e.seen

-- a lane that was closed stays as it was counted
abbrev pub StaysCounted : LaneEnd → LaneEnd → Type 0
StaysCounted e e' = e'.seen ≡ e.seen

-- ---- What the reporter's calls do.

-- the next message of this DataNode, which sent these
abbrev pub next_message : ℕ → List Message → (block stamp len : ℕ) → Kind → Message
next_message dn sent block stamp len kind = record { dn = dn; number = length sent + 1; block = block; stamp = stamp; len = len; kind = kind }

abbrev pub StaysUntold : Reporter → Reporter → Type 0
StaysUntold r r' = (r.told ≡ false) × (r'.told ≡ false)

-- the reporter looked once, and saw that so many of its messages were taken
abbrev pub Looks : Reporter → Reporter → ℕ → Type 0
Looks r r' taken = (r'.loads ≡ r.loads + 1) × (r'.seen ≡ taken) × (r.seen ≤ taken) × (taken ≤ length r.sent)

-- it did not look, and goes by what it saw when it last did
abbrev pub Remembers : Reporter → Reporter → Type 0
Remembers r r' = (r'.loads ≡ r.loads) × (r'.seen ≡ r.seen)

-- it looked once, or did not
abbrev pub Knows : Reporter → Reporter → Type 0
Knows r r' = Looks r r' r'.seen ⊎ Remembers r r'

-- the next message has a place, as the reporter saw when it last looked, and a number
abbrev pub FindsPlace : Reporter → Reporter → Type 0
FindsPlace r r' = Knows r r' × (length r.sent < r'.seen + capacity_of r.lane) × (length r.sent < 2 ^ 62)

abbrev pub HasPlace : Reporter → Reporter → Type 0
HasPlace r r' = FindsPlace r r' × StaysUntold r r'

-- it did not look whether the lane is closed
abbrev pub StaysUnchecked : Reporter → Reporter → Type 0
StaysUnchecked r r' = r'.checks ≡ r.checks

-- the message x was refused so: it comes back. 42 comes where the reporter was told of the close before the call, or where it
-- knew of a place and found the lane closed when it tried to send x; 43 exactly where the lane has carried all that it can;
-- and 41 where all its places were taken when the reporter looked. Whether a full lane is closed was not looked at
abbrev pub RefusesMessage : Reporter → Reporter → Message → Refusal → Type 0
RefusesMessage r r' x (Closed m n) = (m ≡ x) × (n ≡ length r.sent) × (r'.told ≡ true) × (((r.told ≡ true) × Remembers r r') ⊎ FindsPlace r r')
RefusesMessage r r' x (Exhausted m) = (m ≡ x) × (length r.sent ≡ 2 ^ 62) × StaysUntold r r' × Remembers r r'
RefusesMessage r r' x (Full m n) = (m ≡ x) × (length r.sent < 2 ^ 62) × StaysUntold r r' × Looks r r' n × (length r.sent ≡ n + capacity_of r.lane) × StaysUnchecked r r'

-- it looked once whether the lane is closed, and knows from now on what it saw; told before, it did not look. All else is as
-- it was
abbrev pub LooksForClose : Reporter → Reporter → Bool → Type 0
LooksForClose r r' closed = MatchBool r.told ((closed ≡ true) × (r' ≡ r)) (r' ≡ record r { checks = r.checks + 1; told = closed })

-- the prepared message was sent, or the lane was closed before: the reporter was told of it before, or is now
abbrev pub Publishes : Reporter → Reporter → Published → Type 0
Publishes r r' published.Nothing = (r.prepared ≡ None) × (r' ≡ r)
Publishes r r' (published.Sent n) = (x : Message) × (r.prepared ≡ Some x) × (r'.sent ≡ r.sent ++ x ∷ []) × (x.number ≡ n) × (x.dn ≡ r.lane.node) × (n ≡ length r'.sent) × (n ≤ 2 ^ 62) × StaysUntold r r'
Publishes r r' (published.Refused e) = (x : Message) × (r.prepared ≡ Some x) × (r'.sent ≡ r.sent) × (x.number ≡ length r.sent + 1) × (x.dn ≡ r.lane.node) × (e ≡ Closed x (length r.sent)) × (r'.told ≡ true)

-- ---- What the other end's calls do.

-- the next message of the lane was taken; or all that were accepted when the end looked, in this call, were taken before
abbrev pub GivesMessage : LaneEnd → LaneEnd → Taken → Type 0
GivesMessage e e' (taken.Message m) = (e'.got ≡ e.got ++ m ∷ []) × (m.number ≡ length e'.got) × (m.dn ≡ e.lane.node) × (length e'.got ≤ e'.seen)
GivesMessage e e' (taken.Empty n) = (e'.got ≡ e.got) × (e'.seen ≡ n) × (n ≡ length e.got)

-- the end looked once
abbrev pub LooksOnce : LaneEnd → LaneEnd → Type 0
LooksOnce e e' = (e'.loads ≡ e.loads + 1) × (e.seen ≤ e'.seen)

-- it looks wherever it finds none; a message may be one that it knew of
abbrev pub Looked : LaneEnd → LaneEnd → Taken → Type 0
Looked e e' (taken.Message m) = LooksOnce e e' ⊎ ((e'.loads ≡ e.loads) × (e'.seen ≡ e.seen))
Looked e e' (taken.Empty n) = LooksOnce e e'

abbrev pub StartsWith : List Message → List Message → Type 0
StartsWith xs ys = (more : List Message) × (xs ≡ ys ++ more)
