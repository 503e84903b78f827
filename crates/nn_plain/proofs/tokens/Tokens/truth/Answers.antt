use Rattle.std.proofs.Common.{◌∷◌, drop, refl, sym, ap, ◌∙◌}
use Rattle.json.specs.Lex.{fresh, after_value, punctuate}
use Rattle.json.specs.Token.{boolean}
use Rattle.nn_plain.specs.Bytes.{tokens_left}
use Rattle.nn_plain.proofs.FirstToken.{truth_then}
use Rattle.nn_plain.proofs.tokens.Tokens.truth.Goals as goal

pub returns : goal.returns
returns g c =
    let a = c.self.inside in
    let d = a.text.now in
    let found = c.in_ok-truth in
    let ends = c.in_ok-next.ensures.ends in
    sym c.self.view_is ∙ ap (λ b. tokens_left b (drop a.at d)) c.if-not-self.false
    ∙ truth_then fresh found.truth (drop a.at d) (drop found.end d) refl found.ensures.here ends.word
    ∙ ap (λ ls. boolean found.truth ∷ punctuate after_value ls) ends.skips
