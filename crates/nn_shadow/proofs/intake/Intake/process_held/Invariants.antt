use Rattle.std.proofs.Common.{◌≡◌, ◌+◌, ◌≤◌, ◌++◌, map, length, vec_len, vec_capacity}
use Rattle.nn_types.specs.declared.event.Cause.TheVariants.{Flush}
use Rattle.nn_model.specs.History.{processed}
use Rattle.nn_shadow.specs.Steps.{messages_taken, HavePlaces}
use Rattle.nn_shadow.proofs.intake.Intake.process_held.Given as goal

abbrev pub invariant-loop-m : goal.invariant-loop-m
invariant-loop-m l = record {
  told : l.self.history.items ++ map (processed Flush) l.self.held ≡ l.initial.self.history.items ++ map (processed Flush) l.initial.self.held;
  drains : messages_taken l.self.table l.self.held ≡ messages_taken l.initial.self.table l.initial.self.held;
  room : vec_len l.self.history + length l.self.held ≤ vec_capacity l.self.history;
  placed : HavePlaces l.self.table l.self.held;
}

abbrev pub decreases-loop-m : goal.decreases-loop-m
decreases-loop-m l = length l.self.held
