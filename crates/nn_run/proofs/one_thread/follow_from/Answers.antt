use Rattle.std.proofs.Common.{◌++◌, refl}
use Rattle.nn_input.specs.Cut.{ahead}
use Rattle.nn_run.specs.Input.{start_of}
use Rattle.nn_run.proofs.one_thread.follow_from.Goals as goal

pub returns-clause-read : goal.returns-clause-read
returns-clause-read g c =
    let r = c.in_ok-bad.ensures.read in
    let first = c.in_ok-following.following in (
      r.0,
      r.1,
      (start_of c.args.begin, refl, first, c.in_ok-following.ensures.begins, c.end_of_lines.ensures.ends first (ahead c.args.lines.now ++ r.0) r.2),
    )
