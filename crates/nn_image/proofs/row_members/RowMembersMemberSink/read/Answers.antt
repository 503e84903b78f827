use Rattle.std.proofs.Common.{◌≡◌, Some, None, ◌∙◌, arith}
use Rattle.nn_image.specs.RowParts.{row_key, seen_parts}
use Rattle.nn_image.specs.declared.row_members.RowKey.TheVariants as key
use Rattle.nn_image.proofs.RowReads.{key_put, no_key_put}
use Rattle.nn_image.proofs.row_members.RowMembersMemberSink.read.Goals as goal

pub returns-in-Some-Blocks-clause-ok : goal.returns-in-Some-Blocks-clause-ok
returns-in-Some-Blocks-clause-ok c =
    let found = c.in_ok-self.ensures.ok in
    let is : row_key c.args.key.now ≡ Some key.Blocks = grind arith in
    (found.0, found.1, λ ms old. rw (← found.2) at (key_put c.args.key.now found.0 ms key.Blocks (seen_parts c.args.self.now) is old))

pub returns-in-Some-clause-ok : goal.returns-in-Some-clause-ok
returns-in-Some-clause-ok c =
    let found = c.in_ok-value.ensures.ok in
    let is : row_key c.args.key.now ≡ Some c.in-Some.key = grind arith in
    (found.0, found.1, λ ms old. c.set.ensures found.0 found.2 ∙ key_put c.args.key.now found.0 ms c.in-Some.key (seen_parts c.args.self.now) is old)

pub returns-in_default-key-clause-ok : goal.returns-in_default-key-clause-ok
returns-in_default-key-clause-ok c =
    let found = c.in_ok-value.ensures.ok in
    let none : row_key c.args.key.now ≡ None = grind arith in
    (found.0, found.1, λ ms old. no_key_put c.args.key.now found.0 ms (seen_parts c.args.self.now) none old)
