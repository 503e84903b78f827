use Rattle.std.proofs.Common.{◌∷◌, length, string_bytes}
use Rattle.nn_tree.specs.At.{names_of}
use Rattle.nn_tree.specs.Listing.{lent_names}
use Rattle.nn_tree.proofs.Ways.{Down}
use Rattle.nn_tree.proofs.rows.Rows.down.Given as goal

-- what was opened so far lies behind the place
abbrev pub invariant-down : goal.invariant-down
invariant-down l = Down (string_bytes l.fn.first ∷ names_of l.fn.others) l.fn.root (lent_names l.names.items) l.dirs.items (string_bytes l.name) (names_of l.rest) l.tree

abbrev pub decreases-down : goal.decreases-down
decreases-down l = length l.rest
