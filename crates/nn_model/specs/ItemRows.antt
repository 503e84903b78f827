-- Worked examples of items, computed: what full reports revoke, and what they leave alone.
use Rattle.std.specs.Prelude.{◌≡◌, ℕ, ◌+◌, true, false, [], ◌∷◌, map, Some, None, refl}
use Rattle.nn_types.specs.declared.report.Message.{Message}
use Rattle.nn_types.specs.declared.report.Kind.TheVariants.{Receiving, Received, Deleted, Begin, Listed, Finish}
use Rattle.nn_model.specs.Items.{each_once, is_deleted, numbered_blocks, left_out, revoked, begun_after, items_of, items, NodeState, nothing_known, with_item, with_items, node_state_after}
use Rattle.nn_model.specs.MessageRows.{b, c, message, two_lanes}

-- of DataNode 1: a begin, an end
abbrev begin : ℕ → Message
begin number = message 1 number Begin 0 0 0

abbrev finish : ℕ → Message
finish number = message 1 number Finish 0 0 0

abbrev had : ℕ → ℕ → Message
had number id = message 1 number Received id 1001 5

abbrev listed : ℕ → ℕ → Message
listed number id = message 1 number Listed id 1001 5

abbrev gone : ℕ → ℕ → Message
gone number id = message 1 number Deleted id 0 0

row_of_ids : each_once (5 ∷ 3 ∷ 5 ∷ 1 ∷ 3 ∷ 9 ∷ []) ≡ 1 ∷ 3 ∷ 5 ∷ 9 ∷ []
row_of_ids = refl

-- what is had, and since when; what is left out
row_of_what_is_had : numbered_blocks (had 1 c ∷ had 2 b ∷ had 3 c ∷ gone 4 b ∷ had 5 (c + 1) ∷ []) ≡ (c, 3) ∷ (c + 1, 5) ∷ []
row_of_what_is_had = refl

-- a replica that is being received is had, too
row_of_being_received : numbered_blocks (message 1 1 Receiving b 1001 0 ∷ []) ≡ (b, 1) ∷ []
row_of_being_received = refl

row_of_what_is_left_out : left_out 4 (numbered_blocks (had 1 c ∷ had 2 b ∷ had 4 (c + 2) ∷ had 5 (c + 1) ∷ [])) ≡ b ∷ c ∷ []
row_of_what_is_left_out = refl

-- whatever the end of a report carries, what it revokes has no generation stamp and no length
row_of_what_is_revoked : revoked (message 1 5 Finish c 1001 7) b ≡ gone 5 b
row_of_what_is_revoked = refl

-- a delete alone takes away
row_of_deletes : map is_deleted (Receiving ∷ Received ∷ Deleted ∷ Begin ∷ Listed ∷ Finish ∷ []) ≡ false ∷ false ∷ true ∷ false ∷ false ∷ false ∷ []
row_of_deletes = refl

-- b is left out, c is listed
row_of_one_left_out : items_of (had 1 b ∷ had 2 c ∷ begin 3 ∷ listed 4 c ∷ finish 5 ∷ []) ≡ had 1 b ∷ had 2 c ∷ had 4 c ∷ gone 5 b ∷ []
row_of_one_left_out = refl

row_of_an_empty_report : items_of (had 1 b ∷ begin 2 ∷ finish 3 ∷ []) ≡ had 1 b ∷ gone 3 b ∷ []
row_of_an_empty_report = refl

-- by ascending block, whatever came first, and each once
row_of_two_left_out : items_of (had 1 c ∷ had 2 b ∷ had 3 c ∷ begin 4 ∷ finish 5 ∷ []) ≡ had 1 c ∷ had 2 b ∷ had 3 c ∷ gone 5 b ∷ gone 5 c ∷ []
row_of_two_left_out = refl

-- what an end revoked is not revoked again
row_of_two_reports : items_of (had 1 b ∷ begin 2 ∷ finish 3 ∷ begin 4 ∷ finish 5 ∷ []) ≡ had 1 b ∷ gone 3 b ∷ []
row_of_two_reports = refl

-- an end closes the report, so a second one does nothing; nor does one without a begin
row_of_two_ends : items_of (had 1 b ∷ begin 2 ∷ listed 3 b ∷ finish 4 ∷ finish 5 ∷ []) ≡ had 1 b ∷ had 3 b ∷ []
row_of_two_ends = refl

row_of_no_begin : items_of (had 1 b ∷ finish 2 ∷ []) ≡ had 1 b ∷ []
row_of_no_begin = refl

-- the last begin counts: what was listed before it is not listed in its report
row_of_a_begin_given_up : items_of (had 1 b ∷ begin 2 ∷ listed 3 b ∷ begin 4 ∷ finish 5 ∷ []) ≡ had 1 b ∷ had 3 b ∷ gone 5 b ∷ []
row_of_a_begin_given_up = refl

-- a begin takes nothing back, also where a report is open
row_of_two_begins : items_of (had 1 b ∷ begin 2 ∷ begin 3 ∷ []) ≡ had 1 b ∷ []
row_of_two_begins = refl

-- a begin opens a report, an end closes it, and no other message does either
row_of_open_reports : (map (λ kind. begun_after kind (Some 3) 5) (Receiving ∷ Received ∷ Deleted ∷ Listed ∷ Begin ∷ Finish ∷ [])
    ≡ Some 3 ∷ Some 3 ∷ Some 3 ∷ Some 3 ∷ Some 5 ∷ None ∷ [])
    × (map (λ kind. begun_after kind None 5) (Receiving ∷ Received ∷ Deleted ∷ Listed ∷ Begin ∷ Finish ∷ []) ≡ None ∷ None ∷ None ∷ None ∷ Some 5 ∷ None ∷ [])
row_of_open_reports = (refl, refl)

-- told again in any way after the begin, or deleted before it
row_of_others : items_of (had 1 b ∷ had 2 c ∷ begin 3 ∷ message 1 4 Receiving b 1002 0 ∷ finish 5 ∷ [])
    ≡ had 1 b ∷ had 2 c ∷ message 1 4 Receiving b 1002 0 ∷ gone 5 c ∷ []
row_of_others = refl

row_of_a_delete : items_of (had 1 b ∷ gone 2 b ∷ begin 3 ∷ finish 4 ∷ []) ≡ had 1 b ∷ gone 2 b ∷ []
row_of_a_delete = refl

row_of_a_delete_since : items_of (had 1 b ∷ begin 2 ∷ gone 3 b ∷ finish 4 ∷ []) ≡ had 1 b ∷ gone 3 b ∷ []
row_of_a_delete_since = refl

-- listed outside a report is received; a report that does not end takes nothing back
row_of_listed_outside : items_of (listed 1 b ∷ begin 2 ∷ []) ≡ had 1 b ∷ []
row_of_listed_outside = refl

-- a report of one DataNode leaves what another has
row_of_another : items (two_lanes (had 1 b ∷ begin 2 ∷ finish 3 ∷ []) (message 2 1 Received b 1001 5 ∷ [])) 2 ≡ message 2 1 Received b 1001 5 ∷ []
row_of_another = refl

-- ---- What is known after one more message, without the items.

-- a block is had with its last number, and not after a delete; another entry stays
row_of_one_item : (with_item ((b, 1) ∷ (c, 2) ∷ []) (had 3 b) ≡ (b, 3) ∷ (c, 2) ∷ [])
    × (with_item ((c, 2) ∷ []) (had 3 b) ≡ (b, 3) ∷ (c, 2) ∷ [])
    × (with_item ((b, 1) ∷ (c, 2) ∷ []) (gone 3 b) ≡ (c, 2) ∷ [])
    × (with_item ((c, 2) ∷ []) (gone 3 b) ≡ (c, 2) ∷ [])
row_of_one_item = (refl, refl, refl, refl)

row_of_items : with_items ((b, 1) ∷ (c, 2) ∷ []) (gone 3 b ∷ had 4 (c + 1) ∷ []) ≡ (c, 2) ∷ (c + 1, 4) ∷ []
row_of_items = refl

abbrev reporting : NodeState
reporting = record { has = (b, 1) ∷ (c, 4) ∷ []; begun = Some 3 }

row_of_a_begin : node_state_after nothing_known (begin 1) ≡ record { has = []; begun = Some 1 }
row_of_a_begin = refl

row_of_an_end : node_state_after reporting (finish 5) ≡ record { has = (c, 4) ∷ []; begun = None }
row_of_an_end = refl

row_of_no_end : node_state_after reporting (listed 5 b) ≡ record { has = (b, 5) ∷ (c, 4) ∷ []; begun = Some 3 }
row_of_no_end = refl
