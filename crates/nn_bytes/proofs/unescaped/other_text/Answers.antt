use Rattle.std.proofs.Common.{get_or, sym, ap, ◌∙◌, arith}
use Rattle.std.proofs.lemmas.Str.{IsUtf8-from_ascii}
use Rattle.nn_bytes.proofs.PrintableRuns.{printable_line, return_is_ascii, unescaped_behind}
use Rattle.nn_bytes.proofs.unescaped.other_text.Goals as goal

pub ascii_str-requires : goal.ascii_str-requires
ascii_str-requires c =
    let line = c.args.line.now in
    return_is_ascii line c.args.run (omega (arith, c.requires.bound, c.if-run-last.true)) c.requires.printable
    (ap (λ k. get_or line k 0) c.if-run-last.true ∙ c.if-line-last-eq13.true)

pub returns-then-line-last-eq13 : goal.returns-then-line-last-eq13
returns-then-line-last-eq13 c =
    let line = c.args.line.now in
    let ascii = return_is_ascii line c.args.run (omega (arith, c.requires.bound, c.if-run-last.true)) c.requires.printable
    (ap (λ k. get_or line k 0) c.if-run-last.true ∙ c.if-line-last-eq13.true) in
    let unescaped = printable_line line c.args.run (omega (arith, c.if-run-last.true)) c.requires.printable in
    (c.ascii_str.ensures, unescaped, IsUtf8-from_ascii line ascii)

pub returns : goal.returns
returns c =
    let line = c.args.line.now in
    let text = c.in-Ok.ensures in
    let inside = sym c.is_unescaped.ensures ∙ c.if-not-is_unescaped.false in
    (text.0, unescaped_behind line c.args.run (omega (arith, c.requires.bound)) c.requires.printable inside, text.1)
