use Rattle.std.proofs.Common.{ap, ◌∙◌, nat_cmp}
use Rattle.std.specs.FinMap.Entries.{is_sorted}
use Rattle.nn_replicas.specs.Entry.{replicas_in}
use Rattle.nn_replicas.proofs.Listed.{replicas_sorted}
use Rattle.nn_replicas.proofs.entry.Entry.replicas.Goals as goal

pub returns-clause-order : goal.returns-clause-order
returns-clause-order c = ap (is_sorted nat_cmp) (c.new.ensures ∙ ap replicas_in c.as_slice.ensures) ∙ replicas_sorted c.self.inside.cells.items c.self.invariant
