use Rattle.std.proofs.Common.{ap, arith, length}
use Rattle.nn_input.proofs.Cuts.{more_read}
use Rattle.nn_input.proofs.lines.Lines.next.Goals as goal

pub reads-preserved : goal.reads-preserved
reads-preserved g c =
    let cut = c.in-Ok.ensures.none c.in_default-found.is in
    let more = c.in-Ok-refill.ensures.more in
    record {
      read = more_read c.args.most c.args.input.now c.reads.input c.refill.new.input c.args.self.now c.reads.self c.cut.new.self c.refill.new.self c.reads.invariant.read cut.0 cut.1 more;
      left =
          let given = c.in-Ok-refill.ensures.some c.if-not-more.false in
          omega (arith, ap length more.are, more.came.counted, given.0, given.1, c.refill.ensures.soon, c.reads.invariant.left);
      taken = omega (arith, ap length more.are, more.came.counted, c.reads.invariant.read.came.counted);
    }
