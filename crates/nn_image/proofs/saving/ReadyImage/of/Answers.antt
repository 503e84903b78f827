use Rattle.std.proofs.Common.{rules}
use Rattle.nn_image.proofs.Writing.{whole_image}
use Rattle.nn_image.proofs.saving.ReadyImage.of.Goals as goal

pub returns : goal.returns
returns c = whole_image c.args.namespace.now c.args.txid _ _ _ c.in_ok-head.ensures c.in_ok-rows.ensures.left (search rules)
