use Rattle.std.proofs.Common.{ℕ, List, length}
use Rattle.nn_input.specs.Cut.{ahead}
use Rattle.nn_image.specs.FrontReading.{WaitsOn}
use Rattle.nn_image.proofs.front.push_lines.Given as goal

-- the lines that were cut are loaded, and the image waits
abbrev pub invariant-lines : goal.invariant-lines
invariant-lines l = (bytes : List ℕ) → WaitsOn bytes l.fn.lines l.fn.loading → WaitsOn bytes l.lines l.loading

abbrev pub decreases-lines : goal.decreases-lines
decreases-lines l = length (ahead l.lines)
