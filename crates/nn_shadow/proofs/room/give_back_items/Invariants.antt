use Rattle.std.proofs.Common.{◌≡◌, drop}
use Rattle.nn_shadow.specs.Room.{all_given_back, item_blocks}
use Rattle.nn_shadow.proofs.room.give_back_items.Given as goal

abbrev pub invariant-loop-item : goal.invariant-loop-item
invariant-loop-item l = all_given_back l.held l.table (item_blocks (drop l.item-index l.items)) ≡ all_given_back l.held l.initial.table (item_blocks l.items)
