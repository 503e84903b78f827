use Rattle.std.proofs.Common.{sym, ap, ◌∙◌, arith}
use Rattle.nn_edits.specs.Parts.{short_key_at, place_of}
use Rattle.nn_edits.proofs.ShortKeys.{found, not_found}
use Rattle.nn_edits.proofs.keys.short_slot.Goals as goal

pub returns-then-entry-word : goal.returns-then-entry-word
returns-then-entry-word c = λ key is begins.
    let high = c.high_word-word.ensures key is begins in
    let here = c.short_key_at-entry.ensures ∙ ap short_key_at (c.place_of.ensures.value ∙ ap place_of high) in
    not_found key _ (omega (arith, is, c.requires.1)) here (λ w l. c.if-entry-word.true (w ∙ sym high))

pub returns-then-entry-len : goal.returns-then-entry-len
returns-then-entry-len c = λ key is begins.
    let high = c.high_word-word.ensures key is begins in
    let here = c.short_key_at-entry.ensures ∙ ap short_key_at (c.place_of.ensures.value ∙ ap place_of high) in
    not_found key _ (omega (arith, is, c.requires.1)) here (λ w l. c.if-entry-len.true (l ∙ is))

pub returns : goal.returns
returns c = λ key is begins.
    let high = c.high_word-word.ensures key is begins in
    found key c.args.word _ _ c.place_of.ensures.bound c.short_key_at-entry.ensures begins (omega (arith, is, c.requires.0)) (c.if-entry-word.false ∙ high) (c.if-entry-len.false ∙ sym is)
