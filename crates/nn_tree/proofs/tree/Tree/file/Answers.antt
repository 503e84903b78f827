use Rattle.std.proofs.Common.{Some}
use Rattle.nn_model.specs.declared.form.Form.TheVariants.{Dir, File}
use Rattle.nn_tree.specs.At.{at}
use Rattle.nn_tree.proofs.Subtree.{top_of_file}
use Rattle.nn_tree.proofs.Maps.{not_root}
use Rattle.nn_tree.proofs.Files.{file_by_row, at_reached, top_of_dir}
use Rattle.nn_tree.proofs.tree.Tree.file.Goals as goal

pub returns-clause-file : goal.returns-clause-file
returns-clause-file c = at_reached c.args.self.now c.args.names.now c.in-Ok.found c.in-Some.tree (Some (File c.in-Leaf.file)) c.in-Some.is c.in-Ok.ensures.found (top_of_file c.in-Some.tree.now c.tree.inside.node c.in-Leaf.file c.tree.view_is c.in-Leaf.is)

pub returns-in_default-node-clause-found : goal.returns-in_default-node-clause-found
returns-in_default-node-clause-found c =
    file_by_row (at c.args.self.now) c.args.names.now (Some Dir) (not_root c.args.names.now c.if-is_empty.ensures) c.in-Ok.ensures.walked
    (at_reached c.args.self.now c.args.names.now c.in-Ok.found c.in-Some.tree (Some Dir) c.in-Some.is c.in-Ok.ensures.found (top_of_dir c.in-Some.tree.now c.tree.inside.node c.tree.view_is c.in_default-node.not-Leaf))

pub returns-clause-found : goal.returns-clause-found
returns-clause-found c =
    file_by_row (at c.args.self.now) c.args.names.now (Some (File c.in-Leaf.file)) (not_root c.args.names.now c.if-is_empty.ensures) c.in-Ok.ensures.walked (returns-clause-file c)
