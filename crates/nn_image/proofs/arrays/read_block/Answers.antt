use Rattle.std.proofs.Common.{refl, sym, ap, ◌∙◌}
use Rattle.nn_image.specs.Arrays.{block_from, block_parts}
use Rattle.nn_image.proofs.ItemReads.{block_is, no_block}
use Rattle.nn_image.proofs.arrays.read_block.Goals as goal

pub read_object-requires : goal.read_object-requires
read_object-requires c = λ k. ((refl, tt), refl)

pub returns-then-not-branch-clause-ok : goal.returns-then-not-branch-clause-ok
returns-then-not-branch-clause-ok c =
    let found = c.in_ok-read_object.ensures.ok in
    let none = rw c.if-not-branch.true at found.2 in
    (found.0, found.1, sym (no_block found.0 none))

pub returns-clause-ok : goal.returns-clause-ok
returns-clause-ok c =
    let found = c.in_ok-read_object.ensures.ok in
    let members = rw c.if-not-branch.false at found.2 in
    (found.0, found.1, c.block.ensures ∙ ap block_from (members.2 ∙ ap block_parts (sym members.1)) ∙ block_is found.0)
