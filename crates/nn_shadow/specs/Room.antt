-- Room in the table that nobody needs any more.
use Rattle.std.specs.Prelude.{◌≡◌, ℕ, Bool, true, List, [], ◌∷◌, map, Option, Some, None, ◌==◌, if◌then◌else◌}
use Rattle.std.specs.List.{list_any}
use Rattle.nn_types.specs.declared.report.Message.{Message}
use Rattle.nn_types.specs.declared.event.Event.TheVariants.{Applied, Processed}
use Rattle.nn_types.specs.declared.edit.Edit.{Edit}
use Rattle.nn_model.specs.History.{History}
use Rattle.nn_model.specs.Touched.{Touched}
use Rattle.nn_replicas.specs.Table.{Replicas}
use Rattle.nn_replicas.specs.Calls.{has_entry, is_idle_at, room_given_back}
use Rattle.nn_shadow.specs.Steps.{message_taken, block_added}

-- an item about the block is held
abbrev pub is_waited_for : List Message → ℕ → Bool
is_waited_for held id = list_any (λ m. m.block == id) held

-- where the table has an entry of the block without row, replica and order, an item about the block is held
abbrev pub IsNeeded : List Message → Replicas → ℕ → Type 0
IsNeeded held t id = has_entry t id ≡ true → is_idle_at t id ≡ true → is_waited_for held id ≡ true

-- so it is of every block
abbrev pub IsTight : List Message → Replicas → Type 0
IsTight held t = (id : ℕ) → IsNeeded held t id

-- ---- What is given back.

-- the room of a block is given back, unless an item about it is held
abbrev pub given_back : List Message → Replicas → ℕ → Replicas
given_back held t id = if is_waited_for held id then t else room_given_back t id

-- the room of each of these blocks
abbrev pub all_given_back : List Message → Replicas → List ℕ → Replicas
all_given_back held t [] = t
all_given_back held t (id ∷ ids) = all_given_back held (given_back held t id) ids

-- an item was processed, and the room that this left idle was given back
abbrev pub taken_and_given_back : List Message → Replicas → Message → Replicas
taken_and_given_back held t m = given_back held (message_taken t m) m.block

-- so it was, unless the item has to wait
abbrev pub taken_unless : Bool → List Message → Replicas → Message → Replicas
taken_unless waits held t m = if waits then t else taken_and_given_back held t m

-- so it was, where no file holds the block
abbrev pub taken_without_row : Option ℕ → List Message → Replicas → Message → Replicas
taken_without_row None held t m = taken_and_given_back held t m
taken_without_row (Some stamp) held t m = t

-- the blocks that items are about
abbrev pub item_blocks : List Message → List ℕ
item_blocks items = map (λ m. m.block) items

-- the blocks of the items that were processed
abbrev pub processed_blocks : History → List ℕ
processed_blocks [] = []
processed_blocks (Applied txid ∷ events) = processed_blocks events
processed_blocks (Processed dn number block cause ∷ events) = block ∷ processed_blocks events

-- what an edit may leave idle: the blocks that it retired, and of the ids that it passed over those of these events
abbrev pub skipped_blocks : Option (ℕ × ℕ) → History → List ℕ
skipped_blocks None events = []
skipped_blocks (Some range) events = processed_blocks events

abbrev pub given_back_after : List Message → Replicas → Touched → History → Replicas
given_back_after held t what events = all_given_back held (all_given_back held t what.retired) (skipped_blocks what.skipped events)

abbrev pub given_back_at : List Message → Replicas → Option ℕ → Replicas
given_back_at held t None = t
given_back_at held t (Some id) = given_back held t id

-- the room of the block that an edit adds
abbrev pub added_given_back : List Message → Replicas → Edit → Replicas
added_given_back held t edit = given_back_at held t (block_added edit)
