use Rattle.std.proofs.Common.{◌≡◌, ◌∷◌, drop}
use Rattle.nn_tree.specs.Restore.{rises}
use Rattle.nn_image.proofs.header.rises.Given as goal

abbrev pub invariant-loop-id : goal.invariant-loop-id
invariant-loop-id l = rises (l.last ∷ drop l.id-index l.rest) ≡ rises l.fn.ids
