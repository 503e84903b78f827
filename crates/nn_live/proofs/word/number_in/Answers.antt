use Rattle.std.proofs.Common.{◌≡◌, true, false, bytes_eq, not, sym, ap, ◌∙◌, arith}
use Rattle.std.specs.Fmt.{decimal}
use Rattle.std.proofs.lemmas.Slice.Eq.{bytes_eq-Decides}
use Rattle.nn_live.proofs.WordTexts.{written, not_written, parsed, parses_it}
use Rattle.nn_live.proofs.word.number_in.Goals as goal

pub returns-in_default-clause-number : goal.returns-in_default-clause-number
returns-in_default-clause-number c = sym (not_written c.args.text.now (λ n small is. c.in_default.not-Ok n (parsed c.args.text.now n c.parse_u64.result small is c.parse_u64.ensures)))

pub returns-then-number-ge-NUMBERS-clause-number : goal.returns-then-number-ge-NUMBERS-clause-number
returns-then-number-ge-NUMBERS-clause-number c = sym (not_written c.args.text.now (λ n small is.
    (let same = parses_it c.args.text.now c.in-Ok.number n c.parse_u64.result c.in-Ok.is small is c.parse_u64.ensures in
    omega (arith, same, small, c.if-number-ge-NUMBERS.true))))

pub returns-then-ne-clause-number : goal.returns-then-ne-clause-number
returns-then-ne-clause-number c =
    let text = c.args.text.now in
    let wrote : c.as_bytes.result.now ≡ decimal c.in-Ok.number = c.as_bytes.ensures.value ∙ c.format.ensures.text in
    sym (not_written text (λ n small is.
    (let same = parses_it text c.in-Ok.number n c.parse_u64.result c.in-Ok.is small is c.parse_u64.ensures in
    let equal : bytes_eq c.as_bytes.result.now text ≡ true = (bytes_eq-Decides c.as_bytes.result.now text).1 (wrote ∙ ap decimal same ∙ sym is) in
    let clash : true ≡ false = c.if-ne.ensures ∙ ap not equal in
    absurd (cc))))

pub returns-clause-number : goal.returns-clause-number
returns-clause-number c =
    let text = c.args.text.now in
    let wrote : c.as_bytes.result.now ≡ decimal c.in-Ok.number = c.as_bytes.ensures.value ∙ c.format.ensures.text in
    let equal : bytes_eq c.as_bytes.result.now text ≡ true = grind arith in
    sym (written text c.in-Ok.number (omega (arith, c.if-number-ge-NUMBERS.false)) (sym ((bytes_eq-Decides c.as_bytes.result.now text).0 equal) ∙ wrote))
