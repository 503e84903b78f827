use Rattle.std.proofs.Common.{◌≡◌, Some, refl, ◌∙◌, arith}
use Rattle.serde_json.specs.Data.{array}
use Rattle.nn_image.specs.RowParts.{row_key}
use Rattle.nn_image.specs.declared.row_members.RowKey.TheVariants as key
use Rattle.nn_image.proofs.RowReads.{key_put, no_key_put, blocks_read}
use Rattle.nn_image.proofs.row_members.RowMembersSlots.put_array.Goals as goal

pub returns-in-Some-Blocks : goal.returns-in-Some-Blocks
returns-in-Some-Blocks c = λ k ms ds named spelled old. rw (blocks_read ds c.args.blocks spelled c.recall_invariant.ensures) at (key_put k (array ds) ms key.Blocks _ (grind (arith, named)) old)

pub returns-in-Some : goal.returns-in-Some
returns-in-Some c = λ k ms ds named spelled old.
    let is : row_key k ≡ Some c.in-Some.key = grind (arith, named) in
    c.set.ensures (array ds) refl ∙ key_put k (array ds) ms c.in-Some.key _ is old

pub returns-in-None : goal.returns-in-None
returns-in-None c = λ k ms ds named spelled old. no_key_put k (array ds) ms _ (grind (arith, named)) old
