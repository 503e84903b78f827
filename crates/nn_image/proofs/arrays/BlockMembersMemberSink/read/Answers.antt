use Rattle.std.proofs.Common.{◌∙◌}
use Rattle.nn_image.specs.Arrays.{seen_block}
use Rattle.nn_image.proofs.ItemReads.{member_kept}
use Rattle.nn_image.proofs.arrays.BlockMembersMemberSink.read.Goals as goal

pub returns-clause-ok : goal.returns-clause-ok
returns-clause-ok c =
    let found = c.in_ok-value.ensures.ok in
    let put = c.put.ensures in (
      found.0,
      found.1,
      λ ms old. (λ j. record { id = put.id j; stamp = put.stamp j; len = put.len j }) ∙ member_kept c.args.key.now found.0 ms c.whole_of.result (seen_block c.args.self.now) (c.whole_of.ensures found.0 found.2) old,
    )
