use Rattle.nn_tree.proofs.Subtree.{top_of_file}
use Rattle.nn_tree.proofs.Files.{top_of_folder}
use Rattle.nn_tree.proofs.tree.Tree.top.Goals as goal

pub returns-in-Folder : goal.returns-in-Folder
returns-in-Folder c = top_of_folder c.args.self.now c.self.inside.node c.in-Folder.field-0 c.self.view_is c.in-Folder.is

pub returns-in-Leaf : goal.returns-in-Leaf
returns-in-Leaf c = top_of_file c.args.self.now c.self.inside.node c.in-Leaf.file c.self.view_is c.in-Leaf.is
