use Rattle.std.proofs.Common.{sym, ap, ◌∙◌}
use Rattle.nn_live.specs.Words.{or_else, unknown_word}
use Rattle.nn_live.proofs.WordTexts.{long_line, short_line}
use Rattle.nn_live.proofs.word.Word.read.Goals as goal

pub returns-then-line-gt-MAX_LINE_LEN : goal.returns-then-line-gt-MAX_LINE_LEN
returns-then-line-gt-MAX_LINE_LEN c = sym (long_line c.args.line.now c.if-line-gt-MAX_LINE_LEN.true)

pub returns-in-Some : goal.returns-in-Some
returns-in-Some c =
    let line = c.args.line.now in
    let is = sym c.in_ok-word.ensures ∙ c.in-Some.is in
    sym (short_line line c.if-line-gt-MAX_LINE_LEN.false ∙ ap (λ o. or_else o (unknown_word line)) is)

pub returns-in-None : goal.returns-in-None
returns-in-None c =
    let line = c.args.line.now in
    let is = sym c.in_ok-word.ensures ∙ c.in-None.is in
    c.unknown.ensures ∙ sym (short_line line c.if-line-gt-MAX_LINE_LEN.false ∙ ap (λ o. or_else o (unknown_word line)) is)
