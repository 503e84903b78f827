use Rattle.std.proofs.Common.{length, take, drop, sym, ap, ◌∙◌}
use Rattle.std.proofs.lemmas.List.{take_rest}
use Rattle.nn_segment.proofs.Names.{length-name, headless, dash_at, first-digits, last-digits, is_head, joined}
use Rattle.nn_segment.proofs.name.numbers_in.Goals as goal

pub returns-then-text-ne-NAME_LEN-clause-none : goal.returns-then-text-ne-NAME_LEN-clause-none
returns-then-text-ne-NAME_LEN-clause-none c =
    λ first last e. c.if-text-ne-NAME_LEN.true (ap length e ∙ length-name first last)

pub returns-then-not-starts_with-clause-none : goal.returns-then-not-starts_with-clause-none
returns-then-not-starts_with-clause-none c =
    λ first last e. headless c.args.text.now c.starts_with.result c.starts_with.ensures.value c.if-not-starts_with.true first last e

pub returns-then-text-ne45-clause-none : goal.returns-then-text-ne45-clause-none
returns-then-text-ne45-clause-none c = λ first last e. c.if-text-ne45.true (dash_at c.args.text.now first last e)

pub returns-in_default-clause-none : goal.returns-in_default-clause-none
returns-in_default-clause-none c =
    λ first last e. c.in_default.ensures.none first (sym (ap (λ t. take 19 (drop 6 t)) e ∙ first-digits first last))

pub returns-in_default-number_in-clause-none : goal.returns-in_default-number_in-clause-none
returns-in_default-number_in-clause-none c =
    λ first last e. c.in_default-number_in.ensures.none last (sym (take_rest c.args.text.now 26 ∙ ap (drop 26) e ∙ last-digits first last))

pub returns-clause-some : goal.returns-clause-some
returns-clause-some c =
    let text = c.args.text.now in
    let one = c.in-Some.ensures.some in
    let other = c.in-Some-number_in.ensures.some in
    (one.0, other.0, joined text c.in-Some.first c.in-Some-number_in.last c.if-text-ne-NAME_LEN.false ((is_head text c.starts_with.result c.starts_with.ensures.value).0 c.if-not-starts_with.false) c.if-text-ne45.false one.1 (other.1 ∙ take_rest text 26))
