use Rattle.std.proofs.Common.{refl, sym, ap, ◌∙◌}
use Rattle.json.specs.Json.{read_key}
use Rattle.nn_plain.proofs.KeyWords.{behind_quote}
use Rattle.nn_plain.proofs.TokensLeft.{close_left, key_left}
use Rattle.nn_plain.proofs.tokens.Tokens.next_key.Goals as goal

pub word_at-word-requires-clause-here : goal.word_at-word-requires-clause-here
word_at-word-requires-clause-here g c =
    let found = c.in_ok-key in
    rw (c.as_bytes.ensures.value) (behind_quote c.self.inside.text.now found.key.now _ c.in_ok-start.start found.ensures.here)

pub returns-then-byte_at-eq125-clause-read : goal.returns-then-byte_at-eq125-clause-read
returns-then-byte_at-eq125-clause-read g c =
    let a = c.self.inside in
    let there = sym c.byte_at.ensures.value ∙ c.if-byte_at-eq125.true in
    let next = c.after_blanks-self-inside-then-byte_at-eq125 in
    ap read_key (sym c.self.view_is ∙ close_left a.fresh a.text.now a.at next.result there next.ensures.skips)

pub returns-clause-read : goal.returns-clause-read
returns-clause-read g c =
    let a = c.self.inside in
    let start = c.in_ok-start in
    let found = c.in_ok-key in
    let colon = c.in_ok-colon in
    let left = key_left a.fresh a.text.now a.at start.start found.end colon.colon c.after_blanks-self-inside-2.result found.key.now start.ensures.begins found.ensures.plain found.ensures.here colon.ensures.skips colon.ensures.there c.after_blanks-self-inside-2.ensures.skips in
    ap read_key (sym c.self.view_is ∙ left)

pub returns-in-Some-clause-read : goal.returns-in-Some-clause-read
returns-in-Some-clause-read g c =
    let a = c.self.inside in
    let found = c.in-Some in
    let here = found.ensures.here in
    let next = c.after_blanks-self-inside in
    let left = key_left a.fresh a.text.now a.at here.0 found.colon found.colon next.result found.key.text.now here.1 found.ensures.plain here.2 refl found.ensures.colon next.ensures.skips in
    ap read_key (sym c.self.view_is ∙ left)

pub returns-in-Some-clause-word : goal.returns-in-Some-clause-word
returns-in-Some-clause-word g c = λ _. c.in-Some.ensures.word
