use Rattle.std.proofs.Common.{subst}
use Rattle.nn_model.specs.WellFormed.{IsWellFormed, HasUtf8Names}
use Rattle.nn_tree.proofs.namespace.Namespace.recall_invariant.Goals as goal

pub returns-clause-well_formed : goal.returns-clause-well_formed
returns-clause-well_formed c = subst IsWellFormed c.self.view_is c.self.invariant.0.well

pub returns-clause-utf8 : goal.returns-clause-utf8
returns-clause-utf8 c = subst HasUtf8Names c.self.view_is c.self.invariant.0.utf8
