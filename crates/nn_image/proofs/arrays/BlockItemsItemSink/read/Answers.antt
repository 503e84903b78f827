use Rattle.std.proofs.Common.{Some, sym, ap, ◌∙◌}
use Rattle.nn_image.specs.Reading.{block_of}
use Rattle.nn_image.proofs.ItemReads.{none_more, none_own, own_more}
use Rattle.nn_image.proofs.arrays.BlockItemsItemSink.read.Goals as goal

pub returns-in_default-clause-ok : goal.returns-in_default-clause-ok
returns-in_default-clause-ok c =
    let found = c.in_ok-block.ensures.ok in
    (found.0, found.1, λ ds old. c.take.ensures.after ∙ sym (none_more block_of ds found.0 (sym old ∙ sym c.take.ensures.value ∙ c.in_default.is)))

pub returns-in_default-block-clause-ok : goal.returns-in_default-block-clause-ok
returns-in_default-block-clause-ok c =
    let found = c.in_ok-block.ensures.ok in
    (found.0, found.1, λ ds old. c.take.ensures.after ∙ sym (none_own block_of ds found.0 (sym found.2 ∙ c.in_default-block.is)))

pub returns-clause-ok : goal.returns-clause-ok
returns-clause-ok c =
    let found = c.in_ok-block.ensures.ok in (
      found.0,
      found.1,
      λ ds old. ap Some c.in_ok-push.ensures.ok
          ∙ sym (own_more block_of ds found.0 c.in-Some.blocks c.in-Some-block.block (sym old ∙ sym c.take.ensures.value ∙ c.in-Some.is) (sym found.2 ∙ c.in-Some-block.is)),
    )
