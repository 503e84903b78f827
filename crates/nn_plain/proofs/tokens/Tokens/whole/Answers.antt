use Rattle.std.proofs.Common.{◌-◌, ◌∷◌, take, drop, refl, sym, ap, ◌∙◌}
use Rattle.json.specs.Lex.{fresh, after_value, punctuate}
use Rattle.json.specs.Token.{number}
use Rattle.nn_plain.specs.Bytes.{tokens_left}
use Rattle.nn_types.proofs.Lists.{between_places}
use Rattle.nn_plain.proofs.FirstToken.{number_then}
use Rattle.nn_plain.proofs.tokens.Tokens.whole.Goals as goal

pub returns : goal.returns
returns g c =
    let a = c.self.inside in
    let d = a.text.now in
    let found = c.in_ok-n in
    let s = take (found.end - a.at) (drop a.at d) in
    let ends = c.in_ok-next.ensures.ends in (
      s,
      sym c.self.view_is ∙ ap (λ b. tokens_left b (drop a.at d)) c.if-not-self.false
          ∙ number_then fresh s (drop a.at d) (drop found.end d) refl found.ensures.number (between_places d a.at found.end found.ensures.bound.0) ends.word
          ∙ ap (λ ls. number s ∷ punctuate after_value ls) ends.skips,
      found.ensures.value,
    )
