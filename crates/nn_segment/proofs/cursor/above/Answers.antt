use Rattle.std.proofs.Common.{subst}
use Rattle.nn_segment.specs.Cursor.{PassesOver}
use Rattle.nn_segment.proofs.CursorLemmas.{above_it}
use Rattle.nn_segment.proofs.cursor.above.Goals as goal

pub returns : goal.returns
returns c =
    above_it c.args.last c.args.segment c.pass_over.new.txs.items c.into_txs.ensures.whole
    (subst (λ txs. PassesOver c.args.last txs c.pass_over.new.txs.items) c.into_txs.ensures.txs (rw (← c.from-txs.ensures.0) c.pass_over.ensures))
