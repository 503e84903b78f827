use Rattle.std.proofs.Common.{◌≡◌, Some, ◌∙◌, arith}
use Rattle.nn_image.specs.RowParts.{row_key}
use Rattle.nn_image.specs.declared.row_members.RowKey.TheVariants as key
use Rattle.nn_image.proofs.RowReads.{key_put, no_key_put, no_blocks_read}
use Rattle.nn_image.proofs.PlainReads.{plain_read}
use Rattle.nn_image.proofs.row_members.RowMembersSlots.put.Goals as goal

pub returns-in-Some-Blocks : goal.returns-in-Some-Blocks
returns-in-Some-Blocks c = λ k ms d named spelled old. rw (no_blocks_read d c.args.value spelled) at (key_put k d ms key.Blocks _ (grind (arith, named)) old)

pub returns-in-Some : goal.returns-in-Some
returns-in-Some c = λ k ms d named spelled old.
    let is : row_key k ≡ Some c.in-Some.key = grind (arith, named) in
    c.set.ensures d (plain_read d c.args.value spelled) ∙ key_put k d ms c.in-Some.key _ is old

pub returns-in-None : goal.returns-in-None
returns-in-None c = λ k ms d named spelled old. no_key_put k d ms _ (grind (arith, named)) old
