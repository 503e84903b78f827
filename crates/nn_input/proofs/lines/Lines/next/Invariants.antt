use Rattle.std.proofs.Common.{◌≤◌, ◌+◌, ◌-◌, ◌^◌, length}
use Rattle.nn_input.specs.Cut.{ReadOn, ahead, still_to_cut}
use Rattle.nn_input.proofs.lines.Lines.next.Given as goal

-- what was read so far is of the line in hand
abbrev pub invariant-reads : goal.invariant-reads
invariant-reads g l = record {
  read : ReadOn l.fn.most l.fn.input l.input l.fn.self l.self;
  left : still_to_cut l.input l.self ≤ still_to_cut l.fn.input l.fn.self;
  taken : l.fn.input.given + length (ahead l.self) ≤ l.input.given + length (ahead l.fn.self);
}

abbrev pub decreases-reads : goal.decreases-reads
decreases-reads g l = 2 ^ 62 - l.input.given
