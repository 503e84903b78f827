use Rattle.std.proofs.Common.{◌+◌, arith}
use Rattle.nn_plain.proofs.Quoted.{quote_there}
use Rattle.nn_plain.proofs.text.closing_quote.Goals as goal

pub returns-clause-quotes : goal.returns-clause-quotes
returns-clause-quotes c =
    (c.if-text-from-ne34.false, quote_there c.args.text.now (c.args.from + 1) _ c.quote_end-stop.ensures.value (omega (arith, c.if-stop-text.false)))
