-- Room that is given back, computed.
use Rattle.std.specs.Prelude.{◌≡◌, true, false, List, [], ◌∷◌, map, filter_map, Some, None, refl}
use Rattle.nn_types.specs.declared.report.Message.{Message}
use Rattle.nn_types.specs.declared.report.Kind.TheVariants.{Received, Deleted}
use Rattle.nn_types.specs.declared.event.Event.TheVariants.{Applied, Processed}
use Rattle.nn_types.specs.declared.event.Cause.TheVariants.{Due}
use Rattle.nn_types.specs.declared.profile.Profile.TheVariants.{One}
use Rattle.nn_types.specs.declared.edit.Edit.{Edit}
use Rattle.nn_types.specs.declared.edit.Edit.TheVariants.{StartSegment, EndSegment, Mkdir, Add, AddBlock, UpdateBlocks, Close, Append, Rename, Delete}
use Rattle.nn_types.specs.declared.edit.Edit.TheVariants.{SetReplication, AllocateBlockId, SetGenstamp}
use Rattle.nn_model.specs.MessageRows.{b, c, f, message}
use Rattle.nn_model.specs.Touched.{nothing}
use Rattle.nn_replicas.specs.Table.{Replicas}
use Rattle.nn_replicas.specs.Calls.{empty_table, pair_placed, room_made}
use Rattle.nn_shadow.specs.Room.{is_waited_for, given_back, all_given_back, taken_unless, taken_without_row, given_back_after, added_given_back}
use Rattle.nn_shadow.specs.Steps.{message_taken, block_added, room_made_for}

-- ---- DataNode 1 was placed at b and c. No file holds them.

abbrev at_b : Replicas
at_b = pair_placed (empty_table 1) 1 b

abbrev at_c : Replicas
at_c = pair_placed (empty_table 1) 1 c

abbrev at_both : Replicas
at_both = pair_placed at_b 1 c

abbrev received_b : Message
received_b = message 1 1 Received b 1001 5

abbrev deleted_b : Message
deleted_b = message 1 1 Deleted b 0 0

abbrev about_b : List Message
about_b = received_b ∷ []

waited_for : map (is_waited_for about_b) (b ∷ c ∷ []) ≡ true ∷ false ∷ []
waited_for = refl

-- a block that an item is held about keeps its room
of_each : (map (given_back [] at_both) (b ∷ c ∷ []) ≡ at_c ∷ at_b ∷ []) × (map (given_back about_b at_both) (b ∷ c ∷ []) ≡ at_both ∷ at_b ∷ [])
of_each = (refl, refl)

of_both : (all_given_back [] at_both (b ∷ c ∷ []) ≡ empty_table 1) × (all_given_back about_b at_both (b ∷ c ∷ []) ≡ at_b)
of_both = (refl, refl)

-- ---- A message. A delete leaves room alone, and a replica an order.

of_a_message : (taken_without_row None [] at_b deleted_b ≡ empty_table 1) × (taken_without_row None about_b at_b deleted_b ≡ at_b)
    × (taken_without_row None [] at_b received_b ≡ message_taken at_b received_b) × (taken_without_row (Some 1001) [] at_b deleted_b ≡ at_b)
of_a_message = (refl, refl, refl, refl)

-- one that has to wait will need its room
of_one_that_waits : (taken_unless true [] at_b deleted_b ≡ at_b) × (taken_unless false [] at_b deleted_b ≡ empty_table 1)
of_one_that_waits = (refl, refl)

-- ---- An edit retired b, or passed over c and set an item about it free.

of_retired : given_back_after [] at_both (record nothing { retired = b ∷ [] }) (Processed 1 1 c Due ∷ []) ≡ at_c
of_retired = refl

of_skipped : given_back_after [] at_both (record nothing { skipped = Some (c, c) }) (Applied 1 ∷ Processed 1 1 c Due ∷ []) ≡ at_b
of_skipped = refl

-- ---- An edit adds b, for which room is made, and given back where the edit was not made.

abbrev adds_b : Edit
adds_b = AddBlock f b 1001

added : filter_map block_added (StartSegment One ∷ EndSegment ∷ Mkdir f ∷ Add f 3 ∷ adds_b ∷ UpdateBlocks f [] ∷ Close f [] ∷ Append f ∷ Rename f f ∷ Delete f
    ∷ SetReplication f 3 ∷ AllocateBlockId c ∷ SetGenstamp 1002 ∷ []) ≡ b ∷ []
added = refl

of_an_added : (room_made_for (empty_table 1) adds_b ≡ room_made (empty_table 1) b) × (room_made_for at_b adds_b ≡ at_b) × (room_made_for at_b EndSegment ≡ at_b)
of_an_added = (refl, refl, refl)

of_one_not_added : (added_given_back [] (room_made_for (empty_table 1) adds_b) adds_b ≡ empty_table 1) × (added_given_back about_b (room_made_for at_b adds_b) adds_b ≡ at_b)
    × (added_given_back [] at_b EndSegment ≡ at_b)
of_one_not_added = (refl, refl, refl)
