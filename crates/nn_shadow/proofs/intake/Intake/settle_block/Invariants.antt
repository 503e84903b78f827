use Rattle.std.proofs.Common.{◌+◌, ◌≤◌, length, vec_len, vec_capacity}
use Rattle.nn_shadow.proofs.OneByOne.{SoFar}
use Rattle.nn_shadow.proofs.intake.Intake.settle_block.Given as goal

abbrev pub invariant-loop-m : goal.invariant-loop-m
invariant-loop-m l = record {
  so_far : SoFar l.block l.status l.initial.self.history.items l.initial.self.held l.initial.self.table l.self.history.items l.self.held l.self.table;
  room : vec_len l.self.history + length l.self.held ≤ vec_capacity l.self.history;
}

abbrev pub decreases-loop-m : goal.decreases-loop-m
decreases-loop-m l = length l.self.held
