use Rattle.std.proofs.Common.{◌∙◌, sym}
use Rattle.nn_model.specs.Stands.{fresh}
use Rattle.nn_run.proofs.one_thread.following_from.Goals as goal

pub of-requires-clause-fresh : goal.of-requires-clause-fresh
of-requires-clause-fresh c = let e = c.in-Ok.ensures.fresh in e ∙ (λ i. fresh (sym e i).namespace (sym e i).last)
