use Rattle.std.proofs.Common.{true, false, is_some, ap, ◌∙◌}
use Rattle.nn_tree.specs.At.{at}
use Rattle.nn_tree.proofs.Maps.{not_root, by_walk, delete_by_row}
use Rattle.nn_tree.proofs.tree.Tree.delete_refusal.Goals as goal

pub returns-in-Err : goal.returns-in-Err
returns-in-Err c = by_walk (at c.args.self.now) c.args.names.now _ c.in-Err.fault (not_root c.args.names.now c.if-is_empty.ensures) c.in-Err.ensures.walked

pub returns-in-Ok-Some : goal.returns-in-Ok-Some
returns-in-Ok-Some c = delete_by_row (at c.args.self.now) c.args.names.now true (not_root c.args.names.now c.if-is_empty.ensures) c.in-Ok-Some.ensures.walked (c.in-Ok-Some.ensures.present ∙ ap is_some c.in-Ok-Some.field-0-is)

pub returns-in-Ok-None : goal.returns-in-Ok-None
returns-in-Ok-None c = delete_by_row (at c.args.self.now) c.args.names.now false (not_root c.args.names.now c.if-is_empty.ensures) c.in-Ok-None.ensures.walked (c.in-Ok-None.ensures.present ∙ ap is_some c.in-Ok-None.field-0-is)
