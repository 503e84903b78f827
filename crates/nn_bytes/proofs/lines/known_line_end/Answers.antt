use Rattle.std.proofs.Common.{length, ◌-◌, drop, sym, ap, ◌∙◌, arith}
use Rattle.std.specs.List.{position_or_len}
use Rattle.std.proofs.lemmas.List.{length-drop, take_all}
use Rattle.nn_bytes.proofs.LineEnds.{ends, ends_behind, ends_there}
use Rattle.nn_bytes.proofs.PrintableRuns.{run_of_line}
use Rattle.nn_bytes.proofs.lines.known_line_end.Goals as goal

pub returns-then-bytes-run-eq10-clause-end : goal.returns-then-bytes-run-eq10-clause-end
returns-then-bytes-run-eq10-clause-end c = sym (ends_there c.args.bytes.now _ c.printable_run-run.ensures.run c.if-run-bytes.true c.if-bytes-run-eq10.true)

pub returns-then-bytes-run-eq10-clause-printable : goal.returns-then-bytes-run-eq10-clause-printable
returns-then-bytes-run-eq10-clause-printable c = run_of_line c.args.bytes.now _ _ c.printable_run-run.ensures.run (omega arith) c.printable_run-run.ensures.bound

pub returns-clause-end : goal.returns-clause-end
returns-clause-end c =
    let bytes = c.args.bytes.now in
    let run = c.printable_run-run.result in
    let behind = take_all (length bytes - run) (drop run bytes) (omega (arith, length-drop run bytes)) in
    let found = c.line_end.ensures.end ∙ ap (position_or_len ends) behind in
    sym (ends_behind bytes run _ c.printable_run-run.ensures.run found (omega (arith, c.line_end.ensures.within, ap length behind)))

pub returns-clause-printable : goal.returns-clause-printable
returns-clause-printable c =
    let bytes = c.args.bytes.now in
    let run = c.printable_run-run.result in
    let behind = take_all (length bytes - run) (drop run bytes) (omega (arith, length-drop run bytes)) in
    let within = c.line_end.ensures.within in
    run_of_line bytes run _ c.printable_run-run.ensures.run (omega arith) (omega (arith, within, ap length behind, length-drop run bytes, c.printable_run-run.ensures.bound))
