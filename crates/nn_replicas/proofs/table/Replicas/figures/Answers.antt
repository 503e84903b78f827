use Rattle.std.proofs.Common.{ap, ◌∙◌}
use Rattle.nn_replicas.specs.Figures.{figures_of}
use Rattle.nn_replicas.proofs.table.Replicas.figures.Goals as goal

pub returns : goal.returns
returns c = c.self.invariant.0 ∙ ap figures_of c.self.view_is
