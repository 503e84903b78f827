use Rattle.std.proofs.Common.{sym, ◌∙◌}
use Rattle.nn_segment.proofs.ReadingLemmas.{last_of}
use Rattle.nn_segment.proofs.parsed.last_txid.Goals as goal

pub returns-in-Some : goal.returns-in-Some
returns-in-Some c = c.get.ensures.value ∙ sym (last_of c.args.txs.now c.in-Some.tx.now c.in-Some.ensures.value)
