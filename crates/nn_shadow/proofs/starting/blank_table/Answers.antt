use Rattle.std.proofs.Common.{sym, subst}
use Rattle.nn_shadow.specs.Starting.{IsBlank}
use Rattle.nn_shadow.proofs.Blanks.{has_rows, has_all, is_blank}
use Rattle.nn_shadow.proofs.starting.blank_table.Goals as goal

pub set_files-requires-clause-all : goal.set_files-requires-clause-all
set_files-requires-clause-all c =
    let n = c.args.namespace.now in
    has_all n c.args.settings.min c.loop-row.table c.recall_invariant.ensures.well_formed (has_rows n c.args.settings.min c.loop-row.table c.loop-row.row-iterator c.in-None.ensures.steps.0 c.loop-row.invariant)

pub returns : goal.returns
returns c =
    let n = c.args.namespace.now in
    subst (IsBlank n c.args.settings.min) (sym c.in_ok-set_files.ensures)
    (is_blank n c.args.settings.min c.loop-row.table c.recall_invariant.ensures.well_formed (has_rows n c.args.settings.min c.loop-row.table c.loop-row.row-iterator c.in-None.ensures.steps.0 c.loop-row.invariant))
