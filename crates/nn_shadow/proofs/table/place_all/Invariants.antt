use Rattle.std.proofs.Common.{◌≡◌, take}
use Rattle.nn_shadow.specs.Steps.{all_placed}
use Rattle.nn_shadow.proofs.table.place_all.Given as goal

abbrev pub invariant-loop-item : goal.invariant-loop-item
invariant-loop-item l = l.table ≡ all_placed l.initial.table (take l.item-index l.items)
