use Rattle.nn_plain.proofs.Numerals.{parsed}
use Rattle.nn_plain.proofs.any.whole.Goals as goal

pub returns : goal.returns
returns c = parsed c.args.bytes.now c.parse_u64.result c.ok.result c.if-begins_with_plus.ensures c.parse_u64.ensures c.ok.ensures.value
