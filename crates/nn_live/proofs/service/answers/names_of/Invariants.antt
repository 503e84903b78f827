use Rattle.std.proofs.Common.{◌≡◌, ◌++◌, length}
use Rattle.nn_tree.specs.Listing.{lent_names}
use Rattle.nn_live.proofs.service.answers.names_of.Given as goal

-- the names before the rest were taken
abbrev pub invariant-names : goal.invariant-names
invariant-names l = lent_names l.names.items ++ l.rest ≡ l.path

abbrev pub decreases-names : goal.decreases-names
decreases-names l = length l.rest
