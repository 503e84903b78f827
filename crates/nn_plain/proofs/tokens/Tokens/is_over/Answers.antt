use Rattle.std.proofs.Common.{sym, ap, ◌∙◌, arith}
use Rattle.std.proofs.lemmas.Bool.{eqb-true}
use Rattle.std.proofs.lemmas.List.{drop_all}
use Rattle.nn_plain.specs.Bytes.{tokens_left}
use Rattle.nn_plain.proofs.TokensLeft.{none_left, return_left}
use Rattle.nn_plain.proofs.tokens.Tokens.is_over.Goals as goal

pub returns-then-at-text : goal.returns-then-at-text
returns-then-at-text c =
    let a = c.self.inside in
    λ _. sym c.self.view_is ∙ ap (tokens_left a.fresh) (drop_all a.at a.text.now (omega (arith, c.if-at-text.true))) ∙ none_left a.fresh

pub returns-then-text-at-eq1 : goal.returns-then-text-at-eq1
returns-then-text-at-eq1 c =
    let a = c.self.inside in
    λ e. sym c.self.view_is ∙ return_left a.fresh a.text.now a.at (omega (arith, c.if-text-at-eq1.true)) (sym c.byte_at.ensures.value ∙ eqb-true c.byte_at.result 13 e)
