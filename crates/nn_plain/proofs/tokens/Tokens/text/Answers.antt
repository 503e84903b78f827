use Rattle.std.proofs.Common.{◌∷◌, drop, refl, sym, ap, ◌∙◌}
use Rattle.json.specs.Lex.{fresh, after_value, punctuate}
use Rattle.json.specs.Token.{string}
use Rattle.nn_plain.specs.Bytes.{tokens_left}
use Rattle.nn_plain.proofs.FirstToken.{text_then}
use Rattle.nn_plain.proofs.tokens.Tokens.text.Goals as goal

pub returns : goal.returns
returns g c =
    let a = c.self.inside in
    let d = a.text.now in
    let found = c.in_ok-value in
    let ends = c.in_ok-next.ensures.ends in
    sym c.self.view_is ∙ ap (λ b. tokens_left b (drop a.at d)) c.if-not-self.false
    ∙ text_then fresh found.value.now (drop a.at d) (drop found.end d) refl found.ensures.plain found.ensures.here ends.no_key
    ∙ ap (λ ls. string found.value.now ∷ punctuate after_value ls) ends.skips
