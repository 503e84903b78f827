use Rattle.std.proofs.Common.{subst}
use Rattle.nn_shadow.specs.Contents.{IsConsistent}
use Rattle.nn_live.specs.Answers.{status_lines}
use Rattle.nn_live.specs.Serving.{Service, figures_seen}
use Rattle.nn_live.proofs.Answering.{status_told}
use Rattle.nn_live.proofs.service.Service.status.Goals as goal

pub returns : goal.returns
returns g c = (status_lines (figures_seen c.args.self.now), c.put_status.ensures, status_told c.args.self.now (subst (λ (v : Service). IsConsistent v.shadow) c.self.view_is c.recall_invariant.ensures))
