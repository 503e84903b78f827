use Rattle.std.proofs.Common.{◌<◌, ◌≤◌, ◌∷◌, [], ◌++◌, sym, ap, ◌∙◌, subst, arith}
use Rattle.std.specs.Prelude.{codes}
use Rattle.json.specs.Print.{escape_letter}
use Rattle.nn_device.specs.Page.{HasPut}
use Rattle.nn_device.proofs.Pages.{puts_both}
use Rattle.nn_text.proofs.PutNames.{short_escape, long_escape, no_escape}
use Rattle.nn_text.proofs.put.put_byte.Goals as goal

pub returns-then-letter-gt0 : goal.returns-then-letter-gt0
returns-then-letter-gt0 g c = λ start text h.
    let same = c.escape_letter-letter.ensures in
    subst (λ t. HasPut start (text ++ t) c.put.new.self c.put.new.writer)
    (ap (λ l. 92 ∷ l ∷ []) same ∙ sym (short_escape c.args.b (subst (λ l. 0 < l) same c.if-letter-gt0.true))) (c.put.ensures start text h)

pub returns-then-b-lt32 : goal.returns-then-b-lt32
returns-then-b-lt32 g c = λ start text h.
    let none : escape_letter c.args.b ≤ 0 = omega (arith, c.escape_letter-letter.ensures, c.if-letter-gt0.false) in
    let both = puts_both _ _ _ _ _ _ _ _ c.put-then-b-lt32.ensures c.put-then-b-lt32-2.ensures in
    subst (λ t. HasPut start (text ++ t) c.put-then-b-lt32-2.new.self c.put-then-b-lt32-2.new.writer)
    ((λ j. codes "\\u00" ++ c.hex_digit.ensures j ∷ c.hex_digit-then-b-lt32.ensures j ∷ []) ∙ sym (long_escape c.args.b none c.if-b-lt32.true)) (both start text h)

pub returns : goal.returns
returns g c = λ start text h.
    let none : escape_letter c.args.b ≤ 0 = omega (arith, c.escape_letter-letter.ensures, c.if-letter-gt0.false) in
    subst (λ t. HasPut start (text ++ t) c.put_byte.new.self c.put_byte.new.writer) (sym (no_escape c.args.b none (omega (arith, c.if-b-lt32.false)))) (c.put_byte.ensures start text h)
