use Rattle.std.proofs.Common.{◌+◌, ℕ, List, length}
use Rattle.nn_device.specs.Page.{PutsPiece}
use Rattle.nn_input.specs.Cut.{HasCome, ahead}
use Rattle.nn_types.specs.Limits.{max_line}
use Rattle.nn_live.specs.Served.{TakesLines}
use Rattle.nn_live.proofs.served.ServedInput.take_lines.Given as goal

-- lines were taken, and this was told of them
abbrev pub invariant-lines : goal.invariant-lines
invariant-lines g l =
    (told : List ℕ) × PutsPiece told l.fn.page l.fn.writer l.page l.writer × TakesLines l.fn.self l.self told
    × (bytes : List ℕ) × (lines : List (List ℕ)) × HasCome (max_line + 1) bytes lines l.self.lines

abbrev pub decreases-lines : goal.decreases-lines
decreases-lines g l = length (ahead l.self.lines)
