use Rattle.std.proofs.Common.{[]}
use Rattle.nn_scenario.specs.Reading.{nothing_read}
use Rattle.nn_run.proofs.InputLemmas.{no_lines_read}
use Rattle.nn_run.proofs.parts.without_lines.Goals as goal

pub returns-clause-none : goal.returns-clause-none
returns-clause-none c = c.scenario_of-lines.ensures c.in_ok-reading.reading [] (nothing_read, c.in_ok-reading.ensures, no_lines_read)
