use Rattle.std.proofs.Common.{◌≡◌, drop, refl, sym, ap, ◌∙◌}
use Rattle.std.specs.Prelude.{option_map}
use Rattle.nn_live.specs.declared.word.Word.TheVariants as word
use Rattle.nn_live.specs.Words.{word_alone, asking, behind_prefix, prefixed, or_else, path_word}
use Rattle.nn_live.proofs.WordTexts.{no_text, text_line}
use Rattle.nn_live.proofs.word.known.Goals as goal

pub returns-in_default : goal.returns-in_default
returns-in_default c = sym (no_text c.args.line.now c.in_default.ensures)

pub returns-in-Some : goal.returns-in-Some
returns-in-Some c =
    let line = c.args.line.now in
    let is = ap word_alone (sym c.in-Ok.ensures.0) ∙ sym c.alone.ensures ∙ c.in-Some.is in
    sym (text_line line c.in-Ok.ensures.1 ∙ ap (λ o. or_else o (behind_prefix line)) is)

pub returns-in_default-strip_prefix : goal.returns-in_default-strip_prefix
returns-in_default-strip_prefix c =
    let line = c.args.line.now in
    let none = ap word_alone (sym c.in-Ok.ensures.0) ∙ sym c.alone.ensures ∙ c.in_default-alone.is in
    let other : behind_prefix line ≡ prefixed asking line = rw c.in_default-strip_prefix.ensures.cases refl in
    c.before_number.ensures ∙ sym (text_line line c.in-Ok.ensures.1 ∙ ap (λ o. or_else o (behind_prefix line)) none ∙ other)

pub returns-in-Some-2 : goal.returns-in-Some-2
returns-in-Some-2 c =
    let line = c.args.line.now in
    let none = ap word_alone (sym c.in-Ok.ensures.0) ∙ sym c.alone.ensures ∙ c.in_default-alone.is in
    let behind = c.in-Some-strip_prefix.ensures.cases in
    let path : path_word (drop 5 line) ≡ c.in_ok-path.field-0 = ap path_word (sym behind.1) ∙ sym c.in_ok-path.ensures in
    let first : behind_prefix line ≡ option_map (λ p. word.Path p) (path_word (drop 5 line)) = rw behind.0 refl in
    sym (text_line line c.in-Ok.ensures.1 ∙ ap (λ o. or_else o (behind_prefix line)) none ∙ first ∙ ap (option_map (λ p. word.Path p)) (path ∙ c.in-Some-2.is))

pub returns-in-None : goal.returns-in-None
returns-in-None c =
    let line = c.args.line.now in
    let none = ap word_alone (sym c.in-Ok.ensures.0) ∙ sym c.alone.ensures ∙ c.in_default-alone.is in
    let behind = c.in-Some-strip_prefix.ensures.cases in
    let path : path_word (drop 5 line) ≡ c.in_ok-path.field-0 = ap path_word (sym behind.1) ∙ sym c.in_ok-path.ensures in
    let first : behind_prefix line ≡ option_map (λ p. word.Path p) (path_word (drop 5 line)) = rw behind.0 refl in
    sym (text_line line c.in-Ok.ensures.1 ∙ ap (λ o. or_else o (behind_prefix line)) none ∙ first ∙ ap (option_map (λ p. word.Path p)) (path ∙ c.in-None.is))
