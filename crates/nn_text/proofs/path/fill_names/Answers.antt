use Rattle.std.proofs.Common.{◌≤◌, ◌∙◌, arith}
use Rattle.std.specs.Map.Iter.{deref}
use Rattle.nn_text.specs.Plain.{slashed}
use Rattle.nn_text.proofs.PlainBlocks.{one_more_name, front_stays}
use Rattle.nn_text.proofs.path.fill_names.Goals as goal

pub loop-name-preserved : goal.loop-name-preserved
loop-name-preserved c =
    let l = c.loop-name in
    record {
      from = omega (arith, l.invariant.from, c.in-Some.ensures.within.0);
      within = c.in-Some.ensures.within.1;
      len = c.fill_name.ensures.len ∙ l.invariant.len;
      filled = one_more_name (λ n. slashed (deref n)) c.args.names.now l.name-index _ c.args.used l.end c.in-Some.next c.args.room.now l.room c.fill_name.new.room
          (omega (arith, c.loop-name-test.true, l.auto.name-index-end)) l.invariant.filled c.in-Some.ensures.filled;
      same = front_stays c.args.used l.end c.args.room.now l.room c.fill_name.new.room l.invariant.from l.invariant.same c.fill_name.ensures.same;
    }
