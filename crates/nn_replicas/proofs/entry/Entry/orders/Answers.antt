use Rattle.std.proofs.Common.{sym, ap, subst, ◌∙◌, nat_cmp}
use Rattle.std.specs.List.Sorted.{IsStrictlySortedBy}
use Rattle.nn_replicas.specs.Entry.{ordered_in}
use Rattle.nn_replicas.proofs.Listed.{ordered_ascend}
use Rattle.nn_replicas.proofs.entry.Entry.orders.Goals as goal

pub returns-clause-order : goal.returns-clause-order
returns-clause-order c = subst (IsStrictlySortedBy nat_cmp) (sym (c.new.ensures ∙ ap ordered_in c.as_slice.ensures)) (ordered_ascend c.self.inside.cells.items c.self.invariant)
