-- Which items are held. An item waits until it is due, and until each earlier one of its DataNode about its block is;
-- it never waits for another DataNode.
use Rattle.std.specs.Prelude.{◌≡◌, Bool, true, false, not, ◌&&◌, List, filter, nat_le, ◌==◌}
use Rattle.std.specs.List.{list_any}
use Rattle.nn_types.specs.declared.report.Message.{Message}
use Rattle.nn_model.specs.Namespace.{Namespace}
use Rattle.nn_model.specs.Status.{due_in}
use Rattle.nn_model.specs.Lanes.{Lanes}

-- the second item keeps the first one back: it is the same one or an earlier one, about the same block, and is not due
abbrev pub keeps_back : Namespace → Message → Message → Bool
keeps_back n m earlier = (earlier.block == m.block) && nat_le earlier.number m.number && not (due_in n earlier.block earlier.stamp)

-- whether an item of the lane with these items is held
abbrev pub is_held : Namespace → List Message → Message → Bool
is_held n items m = list_any (keeps_back n m) items

abbrev pub IsHeld : Namespace → Lanes → Message → Type 0
IsHeld n lanes m = is_held n (lanes m.dn) m ≡ true

abbrev pub IsFree : Namespace → Lanes → Message → Type 0
IsFree n lanes m = is_held n (lanes m.dn) m ≡ false

-- the lanes without the items that are held
abbrev pub without_held : Namespace → Lanes → Lanes
without_held n lanes dn = filter (λ m. not (is_held n (lanes dn) m)) (lanes dn)
