use Rattle.std.proofs.Common.{ap, ◌∙◌}
use Rattle.nn_replicas.specs.Entry.{has_cell}
use Rattle.nn_replicas.specs.Scan.{is_here}
use Rattle.nn_replicas.proofs.Scanned.{here_found}
use Rattle.nn_replicas.proofs.entry.Entry.has_cell.Goals as goal

pub returns : goal.returns
returns c =
    c.has_cell.ensures ∙ ap (is_here c.args.dn) c.as_slice-2.ensures ∙ here_found c.args.dn c.self.inside.cells.items c.self.invariant
    ∙ ap (λ e. has_cell e c.args.dn) c.self.view_is
