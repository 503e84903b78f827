use Rattle.std.proofs.Common.{Ok, sym, ap, ◌∙◌}
use Rattle.nn_edits.proofs.BlockLists.{fault_stays, fault_comes, block_comes}
use Rattle.nn_edits.proofs.blocks.BlockItemsItemSink.read.Goals as goal

pub returns-in_default-clause-ok : goal.returns-in_default-clause-ok
returns-in_default-clause-ok c =
    let found = c.in_ok-block.ensures.ok in
    (found.0, found.1, λ ds old. c.in_default.is ∙ sym (fault_stays ds found.0 c.in_default.field-0 (sym old ∙ c.in_default.is)))

pub returns-in_ok-push-in-Ok-block-clause-ok : goal.returns-in_ok-push-in-Ok-block-clause-ok
returns-in_ok-push-in-Ok-block-clause-ok c =
    let found = c.in_ok-block.ensures.ok in (
      found.0,
      found.1,
      λ ds old. ap Ok c.in_ok-push-in-Ok-block.ensures.ok
          ∙ sym (block_comes ds found.0 c.in-Ok.blocks c.in-Ok-block.block (sym old ∙ c.in-Ok.is) (sym found.2 ∙ c.in-Ok-block.is)),
    )

pub returns-in-Err-clause-ok : goal.returns-in-Err-clause-ok
returns-in-Err-clause-ok c =
    let found = c.in_ok-block.ensures.ok in
    (found.0, found.1, λ ds old. sym (fault_comes ds found.0 c.in-Ok.blocks c.in-Err.fault (sym old ∙ c.in-Ok.is) (sym found.2 ∙ c.in-Err.is)))
