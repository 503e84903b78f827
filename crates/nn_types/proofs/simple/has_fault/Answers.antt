use Rattle.std.proofs.Common.{◌==◌, ◌∙◌, sym}
use Rattle.std.proofs.lemmas.Bool.{eqb-true}
use Rattle.nn_types.proofs.CommonForm.{no_fault, not_false}
use Rattle.nn_types.proofs.simple.has_fault.Goals as goal

pub returns : goal.returns
returns c none =
    no_fault c.args.text.now c.block_at.result c.block_at-2.result c.args.from c.requires c.block_at.ensures c.block_at-2.ensures
    (sym c.faults.ensures ∙ eqb-true c.faults.result 0 (not_false (c.faults.result == 0) none))
