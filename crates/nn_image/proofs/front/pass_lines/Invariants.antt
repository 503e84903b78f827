use Rattle.std.proofs.Common.{◌≤◌, ◌+◌, ◌-◌, ◌^◌, length}
use Rattle.nn_input.specs.Cut.{ahead}
use Rattle.nn_image.specs.Front.{max_passed}
use Rattle.nn_image.specs.FrontReading.{HasPassed}
use Rattle.nn_image.proofs.front.pass_lines.Given as goal

-- what was read so far is passed over, and one read at most goes beyond what may be
abbrev pub invariant-reads : goal.invariant-reads
invariant-reads g l = record {
  passed : HasPassed l.fn.input l.input l.fn.lines l.lines;
  soon : l.input.given + length (ahead l.fn.lines) ≤ l.fn.input.given + (max_passed + 2 ^ 16);
}

abbrev pub decreases-reads : goal.decreases-reads
decreases-reads g l = 2 ^ 62 - l.input.given
