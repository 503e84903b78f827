use Rattle.std.proofs.Common.{◌∷◌, drop, sym, ap, ◌∙◌}
use Rattle.json.specs.Token.{begin_array}
use Rattle.nn_plain.specs.Bytes.{tokens_left}
use Rattle.nn_plain.proofs.TokensLeft.{open_array_left}
use Rattle.nn_plain.proofs.tokens.Tokens.begin_array.Goals as goal

pub returns : goal.returns
returns c =
    let a = c.self.inside in
    let d = a.text.now in
    let there = sym c.byte_at.ensures.value ∙ c.if-byte_at-ne91.false in
    let next = c.after_blanks-self-inside.result in
    λ _. sym c.self.view_is ∙ ap (λ b. tokens_left b (drop a.at d)) c.if-not-self.false
    ∙ open_array_left d a.at next there c.after_blanks-self-inside.ensures.skips
    ∙ ap (λ b. begin_array ∷ tokens_left b (drop next d)) (sym c.if-not-self.false)
