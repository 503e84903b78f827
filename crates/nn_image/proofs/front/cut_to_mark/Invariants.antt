use Rattle.std.proofs.Common.{ℕ, List, length}
use Rattle.nn_input.specs.Cut.{ahead}
use Rattle.nn_image.specs.FrontReading.{IsPassing}
use Rattle.nn_image.proofs.front.cut_to_mark.Given as goal

-- no line that was cut is the mark
abbrev pub invariant-lines : goal.invariant-lines
invariant-lines l = (bytes : List ℕ) → IsPassing bytes l.fn.lines → IsPassing bytes l.lines

abbrev pub decreases-lines : goal.decreases-lines
decreases-lines l = length (ahead l.lines)
