use Rattle.std.proofs.Common.{ap, arith, length, ◌++◌, []}
use Rattle.std.proofs.lemmas.List.{length-append}
use Rattle.nn_input.proofs.Cuts.{come_both}
use Rattle.nn_scenario.proofs.FollowLemmas.{unread_behind}
use Rattle.nn_scenario.proofs.follow.read_to_end.Goals as goal

pub returns-in-Err-clause-why : goal.returns-in-Err-clause-why
returns-in-Err-clause-why g c =
    let come = c.reads.invariant.come in
    unread_behind c.args.most c.reads.room [] come.0 c.args.input.now c.reads.input c.read_on.new.input c.in-Err.fault come.1 come.2 c.in-Err.ensures.why

pub reads-preserved : goal.reads-preserved
reads-preserved g c =
    let come = c.reads.invariant.come in
    let more = c.in-Ok.ensures.read in
    record {
      come = (
        come.0 ++ more.bytes,
        come_both c.args.input.now c.reads.input c.read_on.new.input come.0 more.bytes come.1 more.came,
        omega (arith, come.2, c.in-Ok.ensures.room, ap length more.are, length-append come.0 more.bytes),
      );
    }
