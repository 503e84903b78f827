use Rattle.std.proofs.Common.{◌≡◌, Some, None, ◌∙◌, arith}
use Rattle.nn_image.specs.HeaderParts.{header_key, seen_parts}
use Rattle.nn_image.specs.declared.header.HeaderKey.TheVariants as key
use Rattle.nn_image.proofs.HeaderReads.{key_put, no_key_put}
use Rattle.nn_image.proofs.header.HeaderMembersMemberSink.read.Goals as goal

pub returns-in-Some-Awaiting-clause-ok : goal.returns-in-Some-Awaiting-clause-ok
returns-in-Some-Awaiting-clause-ok c =
    let found = c.in_ok-self.ensures.ok in
    let is : header_key c.args.key.now ≡ Some key.Awaiting = grind arith in
    (found.0, found.1, λ ms old. rw (← found.2) at (key_put c.args.key.now found.0 ms key.Awaiting (seen_parts c.args.self.now) is old))

pub returns-in-Some-clause-ok : goal.returns-in-Some-clause-ok
returns-in-Some-clause-ok c =
    let found = c.in_ok-value.ensures.ok in
    let is : header_key c.args.key.now ≡ Some c.in-Some.key = grind arith in
    (found.0, found.1, λ ms old. c.set.ensures found.0 found.2 ∙ key_put c.args.key.now found.0 ms c.in-Some.key (seen_parts c.args.self.now) is old)

pub returns-in_default-key-clause-ok : goal.returns-in_default-key-clause-ok
returns-in_default-key-clause-ok c =
    let found = c.in_ok-value.ensures.ok in
    let none : header_key c.args.key.now ≡ None = grind arith in
    (found.0, found.1, λ ms old. no_key_put c.args.key.now found.0 ms (seen_parts c.args.self.now) none old)
