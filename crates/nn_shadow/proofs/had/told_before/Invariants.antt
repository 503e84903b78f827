use Rattle.std.proofs.Common.{◌≡◌, ◌++◌, Some, length}
use Rattle.nn_model.specs.Items.{finished}
use Rattle.nn_shadow.proofs.had.told_before.Given as goal

abbrev pub invariant-had : goal.invariant-had
invariant-had l = l.gone.items ++ finished (Some l.begin) l.left l.finish ≡ finished (Some l.begin) l.fn.has l.finish

abbrev pub decreases-had : goal.decreases-had
decreases-had l = length l.left
