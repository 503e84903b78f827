use Rattle.std.proofs.Common.{◌+◌, ◌-◌, ◌^◌, length}
use Rattle.nn_input.specs.Cut.{ahead}
use Rattle.nn_image.proofs.LoadedLines.{HasLoaded}
use Rattle.nn_image.proofs.restoring.load_image.Given as goal

-- the lines that were taken are loaded
abbrev pub invariant-lines : goal.invariant-lines
invariant-lines g l = HasLoaded l.fn.reader l.reader l.lines l.loading

-- each line takes a byte of those that are to come
abbrev pub decreases-lines : goal.decreases-lines
decreases-lines g l = (2 ^ 62 + 2 ^ 63 + length (ahead l.lines)) - l.reader.given
