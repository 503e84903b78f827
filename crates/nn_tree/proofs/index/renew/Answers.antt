use Rattle.std.proofs.Common.{arith}
use Rattle.nn_tree.proofs.Renewed.{one_more}
use Rattle.nn_tree.proofs.index.renew.Goals as goal

pub left-preserved : goal.left-preserved
left-preserved c =
    let i = c.left.invariant in
    record {
      within_old = (let k = i.within_old in omega (arith, k));
      within_new = (let k = i.within_new in omega (arith, k));
      done = one_more _ _ _ c.args.old.now c.args.new.now c.left.left c.index-new-left.result c.args.closed c.left-test.true i.within_old i.within_new c.index-new-left.is i.done c.write_row.ensures;
    }
