-- The parts of an end between two calls: its seat at the table, and what it counts itself.
use Rattle.std.specs.Prelude.{◌≡◌, ℕ, ◌+◌, ◌^◌, ◌<◌, ◌≤◌, ◌%◌, Bool, true, false, Option, Some, None, [], ◌∷◌, length}
use Rattle.atomic_table.specs.Seated.{TableId}
use Rattle.atomic_table.specs.declared.shared.Seat.{Seat}
use Rattle.nn_types.specs.declared.report.Message.{Message}
use Rattle.nn_types.specs.Limits.{max_capacity}
use Rattle.nn_lane.specs.declared.view.View.{View}

-- the slot of the next message is out with the reporter exactly where it remembers that fewer messages were sent than have
-- a place
abbrev pub KnowsRoom : Bool → Seat Message View → ℕ → ℕ → Type 0
KnowsRoom true seat accepted limit = (accepted < limit) × (limit ≡ seat.me.0.sender.seen + seat.table_id.slots) × ((y : Message) × (seat.me.1 ≡ (accepted % seat.table_id.slots, y) ∷ []))
KnowsRoom false seat accepted limit = (limit ≤ accepted) × (seat.me.1 ≡ [])

-- the slot of the next message is out with the other end exactly where it remembers that more were sent than it took
abbrev pub KnowsNext : Option Message → Seat Message View → ℕ → Type 0
KnowsNext None seat taken = (seat.me.0.taker.seen ≤ taken) × (seat.me.1 ≡ [])
KnowsNext (Some x) seat taken = (taken < seat.me.0.taker.seen) × (seat.me.1 ≡ (taken % seat.table_id.slots, x) ∷ []) × (x.number ≡ taken + 1) × (x.dn ≡ seat.me.0.taker.node)

-- what a look of an end leaves as it was, and what it changes
abbrev pub SenderStays : Seat Message View → Seat Message View → Type 0
SenderStays s s' = (s'.table_id ≡ s.table_id) × (s'.me.0.sends ≡ s.me.0.sends) × (s'.me.0.takes ≡ s.me.0.takes)
    × (s'.me.0.sender.node ≡ s.me.0.sender.node) × (s'.me.0.sender.sent ≡ s.me.0.sender.sent)
    × (s'.me.0.sender.checks ≡ s.me.0.sender.checks) × (s'.me.0.sender.told ≡ s.me.0.sender.told)

abbrev pub SenderLooks : Seat Message View → Seat Message View → ℕ → Type 0
SenderLooks s s' n = (s'.me.0.sender.loads ≡ s.me.0.sender.loads + 1) × (s'.me.0.sender.seen ≡ n) × (s.me.0.sender.seen ≤ n) × (n ≤ length s.me.0.sender.sent)

abbrev pub SenderRemembers : Seat Message View → Seat Message View → Type 0
SenderRemembers s s' = (s'.me.0.sender.loads ≡ s.me.0.sender.loads) × (s'.me.0.sender.seen ≡ s.me.0.sender.seen)

abbrev pub TakerStays : Seat Message View → Seat Message View → Type 0
TakerStays s s' = (s'.table_id ≡ s.table_id) × (s'.me.0.sends ≡ s.me.0.sends) × (s'.me.0.takes ≡ s.me.0.takes)
    × (s'.me.0.taker.node ≡ s.me.0.taker.node) × (s'.me.0.taker.got ≡ s.me.0.taker.got) × (s'.me.0.taker.closed ≡ s.me.0.taker.closed)

abbrev pub TakerLooks : Seat Message View → Seat Message View → Type 0
TakerLooks s s' = (s'.me.0.taker.loads ≡ s.me.0.taker.loads + 1) × (s.me.0.taker.seen ≤ s'.me.0.taker.seen)

abbrev pub TakerRemembers : Seat Message View → Seat Message View → Type 0
TakerRemembers s s' = (s'.me.0.taker.loads ≡ s.me.0.taker.loads) × (s'.me.0.taker.seen ≡ s.me.0.taker.seen)

-- what the reporter's seat holds, where this message is prepared
abbrev pub Ready : Option Message → Seat Message View → ℕ → Type 0
Ready None seat accepted = Unit {0}
Ready (Some x) seat accepted = (seat.me.0.sender.out ≡ true) × (seat.me.1 ≡ (accepted % seat.table_id.slots, x) ∷ []) × (x.number ≡ accepted + 1) × (x.dn ≡ seat.me.0.sender.node)
    × (accepted < 2 ^ 62)

pub record ReporterOk (table : TableId) (seat : Seat Message View) (dn accepted limit : ℕ) (told : Bool) (prepared : Option Message) : Type 0 where
  pub seated : seat.table_id ≡ table
  pub words : table.words ≡ 32
  pub some_slot : 0 < table.slots
  pub few : table.slots ≤ max_capacity
  pub sends : seat.me.0.sends ≡ true
  pub takes : seat.me.0.takes ≡ false
  pub room : KnowsRoom seat.me.0.sender.out seat accepted limit
  pub ready : Ready prepared seat accepted
  pub node : dn ≡ seat.me.0.sender.node
  pub count : accepted ≡ length seat.me.0.sender.sent
  pub most : accepted ≤ 2 ^ 62
  pub told_is : told ≡ seat.me.0.sender.told

pub record LaneEndOk (table : TableId) (seat : Seat Message View) (taken seen : ℕ) (closed : Bool) : Type 0 where
  pub seated : seat.table_id ≡ table
  pub words : table.words ≡ 32
  pub some_slot : 0 < table.slots
  pub sends : seat.me.0.sends ≡ false
  pub takes : seat.me.0.takes ≡ true
  pub next : KnowsNext seat.me.0.taker.next seat taken
  pub count : taken ≡ length seat.me.0.taker.got
  pub seen_is : seen ≡ seat.me.0.taker.seen
  pub closed_is : closed ≡ seat.me.0.taker.closed
