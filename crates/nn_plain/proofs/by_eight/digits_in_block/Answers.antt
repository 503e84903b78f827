use Rattle.std.proofs.Common.{arith}
use Rattle.nn_plain.proofs.DigitRuns.{one_word, both_words}
use Rattle.nn_plain.proofs.by_eight.digits_in_block.Goals as goal

pub returns-then-count-le8-clause-value : goal.returns-then-count-le8-clause-value
returns-then-count-le8-clause-value g c = λ _. (one_word c.args.block _ c.requires c.digit_run-count.ensures.run _ _ c.if-count-le8.true c.first_word-first.ensures c.word_value.ensures).0

pub returns-then-count-le8-clause-small : goal.returns-then-count-le8-clause-small
returns-then-count-le8-clause-small g c = omega (arith, (one_word c.args.block _ c.requires c.digit_run-count.ensures.run _ _ c.if-count-le8.true c.first_word-first.ensures c.word_value.ensures).1)

pub overflow_mul-result : goal.overflow_mul-result
overflow_mul-result g c =
    let both = both_words c.args.block _ c.requires c.digit_run-count.ensures.run _ _ _ _ _ (omega (arith, c.if-count-le8.false)) c.digit_run-count.ensures.bound c.first_word-first.ensures c.word_value-front.ensures c.second_word.ensures c.word_value-back.ensures c.power.ensures in
    record { fits = omega (arith, both.0) }

pub overflow_add-result : goal.overflow_add-result
overflow_add-result g c =
    let both = both_words c.args.block _ c.requires c.digit_run-count.ensures.run _ _ _ _ _ (omega (arith, c.if-count-le8.false)) c.digit_run-count.ensures.bound c.first_word-first.ensures c.word_value-front.ensures c.second_word.ensures c.word_value-back.ensures c.power.ensures in
    record { fits = omega (arith, both.0, both.1) }

pub returns-clause-value : goal.returns-clause-value
returns-clause-value g c =
    let both = both_words c.args.block _ c.requires c.digit_run-count.ensures.run _ _ _ _ _ (omega (arith, c.if-count-le8.false)) c.digit_run-count.ensures.bound c.first_word-first.ensures c.word_value-front.ensures c.second_word.ensures c.word_value-back.ensures c.power.ensures in
    λ _. both.2

pub returns-clause-small : goal.returns-clause-small
returns-clause-small g c =
    let both = both_words c.args.block _ c.requires c.digit_run-count.ensures.run _ _ _ _ _ (omega (arith, c.if-count-le8.false)) c.digit_run-count.ensures.bound c.first_word-first.ensures c.word_value-front.ensures c.second_word.ensures c.word_value-back.ensures c.power.ensures in
    omega (arith, both.3)
