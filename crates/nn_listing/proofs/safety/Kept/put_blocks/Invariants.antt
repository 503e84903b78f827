use Rattle.std.proofs.Common.{◌≡◌, length}
use Rattle.std.specs.Prelude.{flat_map}
use Rattle.nn_device.specs.Page.{PutsAllBut}
use Rattle.nn_tree.specs.Listing.{lent_names}
use Rattle.nn_listing.specs.Kept.{unsafe_by, kept_lines, kept_after}
use Rattle.nn_listing.proofs.safety.Kept.put_blocks.Given as goal

-- the lines of the blocks that are left are to be put
abbrev pub invariant-rest : goal.invariant-rest
invariant-rest g l =
    PutsAllBut (kept_lines l.initial.self (flat_map (unsafe_by l.initial.self (lent_names l.names)) l.blocks)) (kept_lines l.self (flat_map (unsafe_by l.self (lent_names l.names)) l.rest))
    l.fn.page l.fn.writer l.page l.writer
    × (kept_after l.self (flat_map (unsafe_by l.self (lent_names l.names)) l.rest) ≡ kept_after l.initial.self (flat_map (unsafe_by l.initial.self (lent_names l.names)) l.blocks))

abbrev pub decreases-rest : goal.decreases-rest
decreases-rest g l = length l.rest
