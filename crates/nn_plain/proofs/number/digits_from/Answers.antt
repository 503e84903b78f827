use Rattle.nn_plain.proofs.DigitRuns.{block_read}
use Rattle.nn_plain.proofs.number.digits_from.Goals as goal

pub returns-then-count-lt16-clause-read : goal.returns-then-count-lt16-clause-read
returns-then-count-lt16-clause-read g c =
    let found = c.digits_in_block-count.ensures in
    block_read c.args.text.now _ c.args.from _ _ c.block_at.ensures found.run c.if-count-lt16.true (found.value c.if-count-lt16.true)
