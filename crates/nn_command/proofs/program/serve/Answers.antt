use Rattle.std.proofs.Common.{map, string_bytes, refl}
use Rattle.clap.specs.Words.{kind_of}
use Rattle.nn_command.proofs.Served.{told_serves, explained_serves, run_serves}
use Rattle.nn_command.proofs.program.serve.Goals as goal

pub returns-in-Err-clause-some : goal.returns-in-Err-clause-some
returns-in-Err-clause-some g c =
    rw c.in-Ok.is (told_serves (map string_bytes c.in-Ok.arguments.now) (kind_of c.in-Err.error) _ _ _ _ _ _ _ c.in-Err.ensures.err refl c.tell.ensures)

pub returns-in-Some-clause-some : goal.returns-in-Some-clause-some
returns-in-Some-clause-some g c =
    rw c.in-Ok.is (explained_serves (map string_bytes c.in-Ok.arguments.now) c.in-Ok-parse.request c.in-Some.number _ _ _ _ _ _ _ c.in-Some.is c.in-Ok-parse.ensures.ok c.in-Ok-parse.ensures.asked c.in-Ok-parse.ensures.clear refl c.explain.ensures)

pub returns-clause-some : goal.returns-clause-some
returns-clause-some g c =
    rw c.in-Ok.is (run_serves (map string_bytes c.in-Ok.arguments.now) c.in-Ok-parse.request _ _ c.in_default.not-Some c.in-Ok-parse.ensures.ok c.in-Ok-parse.ensures.asked c.in-Ok-parse.ensures.clear (_, c.run_as_asked-run_end.ensures, c.tell_beside.ensures))
