use Rattle.std.proofs.Common.{[]}
use Rattle.nn_command.proofs.Beside.{beside}
use Rattle.nn_command.proofs.program.tell_beside.Goals as goal

pub returns : goal.returns
returns g c =
    let w = c.args.errors.now in
    rw c.in-Some.is (beside c.in-Some.failure c.end.result _ w c.put_error.new.writer c.end.new.writer (c.put_error.ensures w [] (c.new-page.ensures w)) c.end.ensures.ok c.end.ensures.prefix c.end.ensures.cause)
