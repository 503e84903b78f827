-- What the DataNodes sent, as messages. Lanes of items have the same form (`Items`).
use Rattle.std.specs.Prelude.{◌≡◌, ℕ, ◌+◌, Bool, false, not, ◌&&◌, ◌||◌, List, [], ◌∷◌, ◌++◌, Option, Some, find, nat_lt, ◌==◌, if◌then◌else◌}
use Rattle.std.specs.List.{list_any}
use Rattle.nn_types.specs.declared.report.Message.{Message}

-- for each DataNode its lane: its messages in sending order
abbrev pub Lanes : Type 0
Lanes = ℕ → List Message

-- nothing was sent yet
abbrev pub no_messages : Lanes
no_messages dn = []

-- one more message was sent, by its DataNode
abbrev pub followed_by : Lanes → Message → Lanes
followed_by lanes m dn = if dn == m.dn then lanes dn ++ m ∷ [] else lanes dn

-- messages of one DataNode, numbered from here on without a gap
abbrev pub AreNumbered : ℕ → ℕ → List Message → Type 0
AreNumbered dn number [] = Unit {0}
AreNumbered dn number (m ∷ messages) = (m.dn ≡ dn) × (m.number ≡ number) × AreNumbered dn (number + 1) messages

-- each lane has messages of its own DataNode alone, numbered from 1
abbrev pub AreNumberedLanes : Lanes → Type 0
AreNumberedLanes lanes = (dn : ℕ) → AreNumbered dn 1 (lanes dn)

-- the first message comes before the second: its number is less, or the same and its block is less
abbrev pub comes_before : Message → Message → Bool
comes_before m later = nat_lt m.number later.number || ((m.number == later.number) && nat_lt m.block later.block)

-- messages of one DataNode: their numbers never fall, and those of one number have rising blocks
abbrev pub AreInOrder : ℕ → List Message → Type 0
AreInOrder dn [] = Unit {0}
AreInOrder dn (m ∷ messages) = (m.dn ≡ dn) × (list_any (λ later. not (comes_before m later)) messages ≡ false) × AreInOrder dn messages

-- each lane is in order
abbrev pub AreOrdered : Lanes → Type 0
AreOrdered lanes = (dn : ℕ) → AreInOrder dn (lanes dn)

-- the first of these messages with this number about this block
abbrev pub message_with : ℕ → ℕ → List Message → Option Message
message_with number block messages = find (λ m. (m.number == number) && (m.block == block)) messages

-- the message that a DataNode sent under this number about this block
abbrev pub message_of : Lanes → ℕ → ℕ → ℕ → Option Message
message_of lanes dn number block = message_with number block (lanes dn)

-- the message was sent
abbrev pub IsSent : Lanes → Message → Type 0
IsSent lanes m = message_of lanes m.dn m.number m.block ≡ Some m
