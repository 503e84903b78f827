use Rattle.std.proofs.Common.{ap, ◌∙◌}
use Rattle.nn_replicas.specs.Figures.{figures_of}
use Rattle.nn_shadow.specs.Contents.{Shadow}
use Rattle.nn_shadow.proofs.shadow.Shadow.figures.Goals as goal

pub returns : goal.returns
returns c = c.figures.ensures ∙ ap (λ (x : Shadow). figures_of x.table) c.self.view_is
