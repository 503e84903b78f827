use Rattle.std.proofs.Common.{Some, sym, ap, ◌∙◌}
use Rattle.nn_tree.proofs.Memory.{never_memory}
use Rattle.nn_tree.proofs.namespace.Namespace.why_not.Goals as goal

pub returns-clause-memory : goal.returns-clause-memory
returns-clause-memory c e = absurd (never_memory c.args.self.now c.args.edit.now (sym c.in-Some.ensures ∙ ap Some e))
