use Rattle.std.proofs.Common.{◌≡◌, ◌+◌, ◌≤◌, ◌++◌, map, length, drop, vec_len, vec_capacity}
use Rattle.nn_types.specs.declared.event.Cause.TheVariants.{Due}
use Rattle.nn_model.specs.History.{processed}
use Rattle.nn_shadow.specs.Steps.{messages_taken, not_held, HavePlaces}
use Rattle.nn_shadow.proofs.settle.process_due.Given as goal

abbrev pub invariant-loop-item : goal.invariant-loop-item
invariant-loop-item l = record {
  told : l.history.items ++ map (processed Due) (not_held l.held (drop l.item-index l.items)) ≡ l.initial.history.items ++ map (processed Due) (not_held l.held l.items);
  taken : messages_taken l.table (not_held l.held (drop l.item-index l.items)) ≡ messages_taken l.initial.table (not_held l.held l.items);
  room : vec_len l.history + length (not_held l.held (drop l.item-index l.items)) ≤ vec_capacity l.history;
  placed : HavePlaces l.table l.items;
}
