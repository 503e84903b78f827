use Rattle.std.proofs.Common.{◌≡◌, drop}
use Rattle.nn_shadow.specs.Room.{all_given_back, processed_blocks}
use Rattle.nn_shadow.proofs.room.give_back_processed.Given as goal

abbrev pub invariant-loop-event : goal.invariant-loop-event
invariant-loop-event l = all_given_back l.held l.table (processed_blocks (drop l.event-index l.events)) ≡ all_given_back l.held l.initial.table (processed_blocks l.events)
