use Rattle.std.proofs.Common.{◌∙◌}
use Rattle.nn_plain.proofs.EightDigits.{word_writes}
use Rattle.nn_plain.proofs.by_eight.word_value.Goals as goal

pub returns : goal.returns
returns c = λ bytes is long digits. c.pairs_value.ensures ∙ word_writes c.args.word c.args.count bytes c.requires.0 c.requires.1 is long digits
