use Rattle.std.proofs.Common.{◌+◌, ◌-◌, ◌≤◌, length, vec_len, vec_capacity}
use Rattle.nn_tree.specs.Touched.{touched_of}
use Rattle.nn_shadow.specs.Calls.{is_due_in}
use Rattle.nn_shadow.specs.Rounds.{ProcessesDue, IsDoneBelow, Fills}
use Rattle.nn_shadow.specs.Steps.{HavePlaces}
use Rattle.nn_shadow.specs.Touching.{IsQuiet}
use Rattle.nn_shadow.proofs.intake.Intake.settle.Given as goal

abbrev pub invariant-loop-block : goal.invariant-loop-block
invariant-loop-block l = record {
  takes : ProcessesDue (is_due_in l.namespace) l.initial.self.history.items l.initial.self.held l.self.history.items l.self.held;
  fills : Fills (is_due_in l.namespace) l.initial.self.table l.initial.self.held l.self.table l.self.held;
  low : IsDoneBelow l.from (is_due_in l.namespace) l.self.held;
  quiet : IsQuiet (touched_of l.touched) (is_due_in l.namespace) l.self.held;
  room : vec_len l.self.history + length l.self.held ≤ vec_capacity l.self.history;
  placed : HavePlaces l.self.table l.self.held;
}

abbrev pub decreases-loop-block : goal.decreases-loop-block
decreases-loop-block l = 9223372036854775808 - l.from
