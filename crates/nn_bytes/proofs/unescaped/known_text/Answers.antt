use Rattle.nn_bytes.proofs.PrintableRuns.{all_ascii, longer_run, printable_utf8, printable_whole, whole_printable}
use Rattle.nn_bytes.proofs.unescaped.known_text.Goals as goal

pub ascii_str-requires : goal.ascii_str-requires
ascii_str-requires c = all_ascii c.args.line.now (whole_printable c.args.line.now c.args.printable c.if-printable-line.true c.requires.1)

pub returns-then-printable-line : goal.returns-then-printable-line
returns-then-printable-line c =
    let line = c.args.line.now in
    let printable = whole_printable line c.args.printable c.if-printable-line.true c.requires.1 in
    (c.ascii_str.ensures, printable_whole line printable, printable_utf8 line printable)

pub ascii_str-requires-then-run-line : goal.ascii_str-requires-then-run-line
ascii_str-requires-then-run-line c =
    let line = c.args.line.now in
    all_ascii line (whole_printable line _ c.if-run-line.true (longer_run line c.args.printable _ c.requires c.printable_run.ensures.run))

pub returns-then-run-line : goal.returns-then-run-line
returns-then-run-line c =
    let line = c.args.line.now in
    let printable = whole_printable line _ c.if-run-line.true (longer_run line c.args.printable _ c.requires c.printable_run.ensures.run) in
    (c.ascii_str-then-run-line.ensures, printable_whole line printable, printable_utf8 line printable)

pub other_text-requires-clause-printable : goal.other_text-requires-clause-printable
other_text-requires-clause-printable c = longer_run c.args.line.now c.args.printable _ c.requires c.printable_run.ensures.run
