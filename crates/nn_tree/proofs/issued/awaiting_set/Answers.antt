use Rattle.std.proofs.Common.{◌∙◌}
use Rattle.std.proofs.lemmas.List.{take_all}
use Rattle.nn_tree.proofs.Restored.{one_more}
use Rattle.nn_tree.proofs.issued.awaiting_set.Goals as goal

pub loop-id-init : goal.loop-id-init
loop-id-init c = c.new-awaiting.ensures.empty

pub loop-id-preserved : goal.loop-id-preserved
loop-id-preserved c =
    one_more c.args.ids.now c.loop-id.awaiting.keys c.insert.new.self.keys c.loop-id.id-index c.id-item.result c.id-item.result c.args.last_block c.requires c.loop-id-test.true c.id-item.is c.loop-id.invariant c.in_ok-_added.ensures.keys

pub returns : goal.returns
returns c = c.loop-id.invariant ∙ take_all c.loop-id.id-index c.args.ids.now c.loop-id-test.false
