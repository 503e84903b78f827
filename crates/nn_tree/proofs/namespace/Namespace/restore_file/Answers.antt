use Rattle.std.proofs.Common.{ap, sym, ◌∙◌}
use Rattle.std.specs.Prelude.{is_some}
use Rattle.std.specs.List.{list_all}
use Rattle.nn_tree.specs.Restore.{block_fits}
use Rattle.nn_tree.proofs.RestoredFile.{file_refused, not_fit}
use Rattle.nn_tree.proofs.namespace.Namespace.restore_file.Goals as goal

pub returns-then-is_some-clause-refused : goal.returns-then-is_some-clause-refused
returns-then-is_some-clause-refused c =
    λ refused. file_refused c.args.self.now c.args.path.now c.args.file c.recall_invariant.ensures.well_formed (ap is_some (sym c.add_refusal.ensures) ∙ sym c.if-is_some.ensures)

pub returns-then-not-may_hold-clause-refused : goal.returns-then-not-may_hold-clause-refused
returns-then-not-may_hold-clause-refused c =
    λ refused. not_fit c.args.self.now c.args.path.now c.args.file
    (ap (list_all (block_fits c.args.self.now.issued)) (sym c.as_slice.ensures) ∙ sym c.may_hold.ensures ∙ c.if-not-may_hold.true)
