use Rattle.std.proofs.Common.{refl, true, false}
use Rattle.nn_tree.proofs.Prefix.{below_further}
use Rattle.nn_tree.proofs.tree.+lies_below.Goals as goal

pub returns-then-ne : goal.returns-then-ne
returns-then-ne t c =
    below_further c.args.prefix.now c.args.names.now c.in-Some.ps c.in-Some-split_first.ns c.in-Some.p.now c.in-Some-split_first.n.now true _ c.in-Some.ensures.some c.in-Some-split_first.ensures.some c.if-ne.ensures refl

pub returns : goal.returns
returns t c =
    below_further c.args.prefix.now c.args.names.now c.in-Some.ps c.in-Some-split_first.ns c.in-Some.p.now c.in-Some-split_first.n.now false _ c.in-Some.ensures.some c.in-Some-split_first.ensures.some c.if-ne.ensures c.lies_below.ensures
