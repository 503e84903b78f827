use Rattle.std.proofs.Common.{◌-◌, length, get_or, arith}
use Rattle.nn_types.proofs.CommonForm.{simple_path, more_seen, all_seen, last_byte}
use Rattle.nn_types.proofs.simple.is_simple.Goals as goal

pub blocks-2-preserved : goal.blocks-2-preserved
blocks-2-preserved c =
    record {
      none = more_seen c.args.text.now c.blocks-2.i c.blocks-2.invariant.none (c.has_fault.ensures c.if-has_fault.false);
      bound = omega (arith, c.blocks-2-test.true, c.blocks-2.invariant.bound);
    }

pub returns-then-last-ne47 : goal.returns-then-last-ne47
returns-then-last-ne47 c last =
    let d = c.args.text.now in
    simple_path d (omega (arith, c.if-len-lt-LEAST_LEN.false)) (omega (arith, c.if-len-gt-MOST_LEN.false)) (omega (arith, c.if-text-ne47.false))
    (all_seen d c.blocks-2.i (omega (arith, c.if-len-lt-LEAST_LEN.false)) (omega (arith, c.blocks-2-test.false)) c.blocks-2.invariant.none (c.has_fault-2.ensures c.if-has_fault-2.false))
    (last_byte (get_or d (length d - 1) 0) c.if-last-ne47.true last)
