use Rattle.nn_plain.proofs.KeyWords.{block_begins, block_small}
use Rattle.nn_plain.proofs.word.word_of_block.Goals as goal

pub first_word-requires : goal.first_word-requires
first_word-requires c = block_small c.args.text.now _ c.args.from c.block_at.ensures c.type_inv.text

pub returns : goal.returns
returns c = λ key here short. block_begins c.args.text.now key _ c.args.from _ c.block_at.ensures c.requires c.first_word.ensures c.type_inv.text here short
