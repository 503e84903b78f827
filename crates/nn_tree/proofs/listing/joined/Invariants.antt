use Rattle.std.proofs.Common.{◌≡◌, take, string_bytes}
use Rattle.nn_types.specs.Path.{joined}
use Rattle.nn_tree.specs.At.{names_of}
use Rattle.nn_tree.proofs.listing.joined.Given as goal

-- a slash and each name so far
abbrev pub invariant-loop-name : goal.invariant-loop-name
invariant-loop-name l = string_bytes l.text ≡ joined (names_of (take l.name-index l.names))
