use Rattle.std.proofs.Common.{sym, ◌∙◌}
use Rattle.nn_plain.proofs.TokensLeft.{close_array_left, open_left}
use Rattle.nn_plain.proofs.tokens.Tokens.next_object.Goals as goal

pub returns-then-byte_at-eq93 : goal.returns-then-byte_at-eq93
returns-then-byte_at-eq93 c =
    let a = c.self.inside in
    let there = sym c.byte_at.ensures.value ∙ c.if-byte_at-eq93.true in
    sym c.self.view_is ∙ close_array_left a.fresh a.text.now a.at c.after_blanks-self-inside.result there c.after_blanks-self-inside.ensures.skips

pub returns : goal.returns
returns c =
    let a = c.self.inside in
    let start = c.in_ok-start in
    let there = sym c.byte_at-2.ensures.value ∙ c.if-byte_at-ne123.false in
    sym c.self.view_is ∙ open_left a.fresh a.text.now a.at start.start c.after_blanks-self-inside-2.result start.ensures.begins there c.after_blanks-self-inside-2.ensures.skips
