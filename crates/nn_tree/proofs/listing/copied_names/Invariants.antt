use Rattle.std.proofs.Common.{◌≡◌, ◌++◌, drop}
use Rattle.nn_tree.specs.At.{names_of}
use Rattle.nn_tree.specs.Listing.{lent_names}
use Rattle.nn_tree.proofs.listing.copied_names.Given as goal

-- the names so far, and those that are left
abbrev pub invariant-loop-name : goal.invariant-loop-name
invariant-loop-name l = names_of l.copy.items ++ lent_names (drop l.name-index l.names) ≡ lent_names l.names
