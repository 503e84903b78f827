use Rattle.nn_bytes.specs.Runs.{is_printable_byte}
use Rattle.nn_bytes.proofs.PrintableRuns.{printable_utf8, run_passes}
use Rattle.nn_bytes.proofs.printable.printable_is_utf8.Goals as goal

pub returns-clause-run : goal.returns-clause-run
returns-clause-run c = run_passes is_printable_byte

pub returns-clause-utf8 : goal.returns-clause-utf8
returns-clause-utf8 c = printable_utf8
