use Rattle.nn_tree.proofs.Waiting.{awaiting_numbers}
use Rattle.nn_tree.specs.View.{seen}
use Rattle.nn_tree.proofs.namespace.Namespace.awaiting.Goals as goal

pub awaiting-requires : goal.awaiting-requires
awaiting-requires c = awaiting_numbers (seen c.self.inside.root c.self.inside.issued) c.self.invariant.0.well
