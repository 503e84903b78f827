use Rattle.std.proofs.Common.{rules, subst}
use Rattle.nn_shadow.specs.Steps.{AreApart}
use Rattle.nn_shadow.proofs.Forgetting.{all_told}
use Rattle.nn_shadow.proofs.ItemsTaken.{finished_apart}
use Rattle.nn_shadow.proofs.Sorting.{ascend_from, strictly_sorted}
use Rattle.nn_shadow.proofs.had.told_before.Goals as goal

pub returns-clause-apart : goal.returns-clause-apart
returns-clause-apart c = subst AreApart (all_told c.args.begin c.args.finish.now c.had.gone.items c.had.left.now c.args.has.now (search rules) c.had.invariant)
    (finished_apart c.args.begin c.args.finish.now c.args.has.now (strictly_sorted c.args.has.now (ascend_from c.args.has.now c.requires.sorted)))
