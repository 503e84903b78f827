use Rattle.std.proofs.Common.{ap, ◌∙◌, nat_cmp}
use Rattle.std.specs.FinMap.Entries.{is_sorted}
use Rattle.nn_replicas.specs.Entry.{rows_in}
use Rattle.nn_replicas.proofs.Entries.{sorted_of}
use Rattle.nn_replicas.proofs.Listed.{rows_sorted}
use Rattle.nn_replicas.proofs.table.Replicas.rows.Goals as goal

pub returns-clause-order : goal.returns-clause-order
returns-clause-order c = ap (is_sorted nat_cmp) (c.new.ensures ∙ ap rows_in c.iter.ensures.all) ∙ rows_sorted c.self.inside.entries (sorted_of c.self.inside.entries c.self.invariant.1)
