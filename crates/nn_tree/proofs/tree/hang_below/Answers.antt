use Rattle.std.proofs.Common.{refl}
use Rattle.nn_tree.proofs.Work.{rest_taken, order_hung}
use Rattle.nn_tree.proofs.Sorted.{sorted_whole}
use Rattle.nn_tree.proofs.tree.hang_below.Goals as goal

pub returns-clause-less : goal.returns-clause-less
returns-clause-less c = rest_taken c.args.children c.replace_first-next.new.self c.args.rest c.replace_first-next.result _ c.replace_first-next.ensures.value refl

pub returns-clause-order : goal.returns-clause-order
returns-clause-order c = order_hung c.args.children c.replace_first-next.new.self c.replace_first-next.result _ c.replace_first-next.ensures.value c.replace_first-next.ensures.ordered c.requires.children (sorted_whole c.args.rest c.requires.rest)

pub invariant_of-own : goal.invariant_of-own
invariant_of-own c = (c.recall_invariant.ensures, sorted_whole c.args.rest c.requires.rest)
