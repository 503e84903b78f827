use Rattle.nn_plain.proofs.KeyWords.{high_is}
use Rattle.nn_plain.proofs.word.high_word.Goals as goal

pub returns : goal.returns
returns c = λ key is begins. high_is c.args.word c.args.len key c.requires.1 is begins
