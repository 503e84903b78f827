use Rattle.nn_plain.proofs.word.word_at.Goals as goal

pub returns : goal.returns
returns c = λ short. c.word_of_block.ensures c.args.key.now c.requires.here short
