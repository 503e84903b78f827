use Rattle.nn_tree.proofs.Renewed.{row_rewritten}
use Rattle.nn_tree.proofs.index.write_row.Goals as goal

pub returns : goal.returns
returns c q = row_rewritten c.args.index.now c.args.block c.args.closed c.in-Some.row.now q c.in-Some.ensures.value
