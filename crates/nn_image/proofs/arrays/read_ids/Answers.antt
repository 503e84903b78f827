use Rattle.std.proofs.Common.{Some, sym, ap, ◌∙◌}
use Rattle.nn_image.specs.Arrays.{awaiting_of, ids_in}
use Rattle.nn_image.specs.Reading.{gathered}
use Rattle.nn_image.proofs.ItemReads.{no_items_in}
use Rattle.nn_image.proofs.arrays.read_ids.Goals as goal

pub read_array-requires : goal.read_array-requires
unfolding gathered
read_array-requires c = ap Some c.new.ensures.items

pub returns-then-not-branch-clause-ok : goal.returns-then-not-branch-clause-ok
returns-then-not-branch-clause-ok c =
    let found = c.in_ok-read_array.ensures.ok in
    let none = rw c.if-not-branch.true at found.2 in
    (found.0, found.1, sym (no_items_in awaiting_of found.0 none))

pub returns-clause-ok : goal.returns-clause-ok
returns-clause-ok c =
    let found = c.in_ok-read_array.ensures.ok in
    let items = rw c.if-not-branch.false at found.2 in
    (found.0, found.1, items.2 ∙ ap ids_in (sym items.1))
