use Rattle.std.proofs.Common.{◌≡◌, drop}
use Rattle.nn_shadow.specs.Room.{all_given_back}
use Rattle.nn_shadow.proofs.room.give_back_blocks.Given as goal

abbrev pub invariant-loop-block : goal.invariant-loop-block
invariant-loop-block l = all_given_back l.held l.table (drop l.block-index l.blocks) ≡ all_given_back l.held l.initial.table l.blocks
