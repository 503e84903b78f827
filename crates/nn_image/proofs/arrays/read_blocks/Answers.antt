use Rattle.std.proofs.Common.{Some, sym, ap, ◌∙◌}
use Rattle.nn_image.specs.Arrays.{block_list}
use Rattle.nn_image.specs.Reading.{block_of, gathered}
use Rattle.nn_image.proofs.ItemReads.{no_items_in}
use Rattle.nn_image.proofs.arrays.read_blocks.Goals as goal

pub read_array-requires : goal.read_array-requires
unfolding gathered
read_array-requires c = ap Some c.new.ensures

pub returns-then-not-branch-clause-ok : goal.returns-then-not-branch-clause-ok
returns-then-not-branch-clause-ok c =
    let found = c.in_ok-read_array.ensures.ok in
    let none = rw c.if-not-branch.true at found.2 in
    (found.0, found.1, sym (no_items_in block_of found.0 none))

pub returns-clause-ok : goal.returns-clause-ok
returns-clause-ok c =
    let found = c.in_ok-read_array.ensures.ok in
    let items = rw c.if-not-branch.false at found.2 in
    (found.0, found.1, items.2 ∙ ap block_list (sym items.1))
