-- Where many messages about one block stand, and what is kept beside them. A place may be a hole, and the messages of each
-- DataNode are linked in their order.
use Rattle.std.specs.Prelude.{◌≡◌, ℕ, ◌<◌, ◌≤◌, ◌==◌, length, get_or, true, false, Bool, List, Option, Some, None}
use Rattle.std.specs.List.{list_all}
use Rattle.std.specs.Ordering.{nat_cmp}
use Rattle.nn_sorted.specs.Values.{value_at}
use Rattle.nn_types.specs.declared.report.Message.{Message}
use Rattle.nn_postponed.specs.declared.many.Ends.{Ends}
use Rattle.nn_postponed.specs.declared.stamps.TheConstants.{NO_STAMP}
use Rattle.nn_postponed.specs.Stamps.{stamp_there}

abbrev pub Slots : Type 0
Slots = List (Option Message)

-- what stands at a place
abbrev pub slot : Slots → ℕ → Option Message
slot slots place = get_or slots place None

-- it is a message of this DataNode
abbrev pub is_of : ℕ → Option Message → Bool
is_of dn None = false
is_of dn (Some m) = m.dn == dn

-- none of the DataNode's messages stands before a place, behind one, between two
abbrev pub NoneBefore : ℕ → Slots → ℕ → Type 0
NoneBefore dn slots place = (q : ℕ) → q < place → is_of dn (slot slots q) ≡ false

abbrev pub NoneBehind : ℕ → Slots → ℕ → Type 0
NoneBehind dn slots place = (q : ℕ) → place < q → is_of dn (slot slots q) ≡ false

abbrev pub NoneBetween : ℕ → Slots → ℕ → ℕ → Type 0
NoneBetween dn slots place end = (q : ℕ) → place < q → q < end → is_of dn (slot slots q) ≡ false

-- the messages are about this block
abbrev pub AreAbout : ℕ → List Message → Type 0
AreAbout block messages = list_all (λ m. m.block == block) messages ≡ true

-- this message stands at the place, as the first one of its DataNode
pub record IsHead (slots : Slots) (place : ℕ) (m : Message) : Type 0 where
  pub there : slot slots place ≡ Some m
  pub first : NoneBefore m.dn slots place

-- this message stands at the place, as the last one of all
pub record IsLast (slots : Slots) (place : ℕ) (m : Message) : Type 0 where
  pub there : slot slots place ≡ Some m
  pub behind : (q : ℕ) → place < q → slot slots q ≡ None

-- these are the places of the DataNode's first and last message
pub record AreEnds (dn : ℕ) (slots : Slots) (ends : Ends) : Type 0 where
  pub first : is_of dn (slot slots ends.first) ≡ true
  pub before : NoneBefore dn slots ends.first
  pub last : is_of dn (slot slots ends.last) ≡ true
  pub behind : NoneBehind dn slots ends.last

-- the DataNode has no message, or has these ends
abbrev pub HasEnds : ℕ → Slots → Option Ends → Type 0
HasEnds dn slots None = (q : ℕ) → is_of dn (slot slots q) ≡ false
HasEnds dn slots (Some ends) = AreEnds dn slots ends

-- this is the place of the DataNode's next message behind a place, or 0 where there is none
pub record IsNext (dn : ℕ) (slots : Slots) (place next : ℕ) : Type 0 where
  pub none : next ≡ 0 → NoneBehind dn slots place
  pub later : 0 < next → place < next
  pub there : 0 < next → is_of dn (slot slots next) ≡ true
  pub between : NoneBetween dn slots place next

-- at each head stands its stamp, and at no other place a stamp
pub record AreStamps (slots : Slots) (stamps : List ℕ) : Type 0 where
  pub heads : (place : ℕ) (m : Message) → IsHead slots place m → stamp_there stamps place ≡ m.stamp
  pub low : (place : ℕ) (m : Message) → IsHead slots place m → m.stamp < NO_STAMP
  pub only : (place : ℕ) → stamp_there stamps place < NO_STAMP → (m : Message) × IsHead slots place m

-- all that is kept beside the places fits them
pub record AreLinked (block : ℕ) (slots : Slots) (next : List ℕ) (ends : List (ℕ × Ends)) (stamps : List ℕ) : Type 0 where
  pub about : (place : ℕ) (m : Message) → slot slots place ≡ Some m → m.block ≡ block
  pub has_ends : (dn : ℕ) → HasEnds dn slots (value_at nat_cmp ends dn)
  pub has_next : (place : ℕ) (m : Message) → slot slots place ≡ Some m → IsNext m.dn slots place (get_or next place 0)
  pub has_stamps : AreStamps slots stamps
  pub as_many : length next ≡ length slots
  pub room : length slots ≤ length stamps
