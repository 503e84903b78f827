use Rattle.std.proofs.Common.{[], ◌∷◌, ap, ◌∙◌}
use Rattle.std.specs.Option.{option_copied}
use Rattle.nn_tree.proofs.Subtree.{child, opened, opened_narrow, found, at_top, at_file, leaf_of}
use Rattle.nn_tree.proofs.Step.{is_called, is_called_else, one_found, one_other}
use Rattle.nn_tree.proofs.Walk.{if_some}
use Rattle.nn_tree.proofs.tree.Tree.child.Goals as goal

pub returns-clause-found : goal.returns-clause-found
returns-clause-found c =
    let d = opened c.args.self.now c.self.inside.node c.in-Folder.children c.self.view_is c.self.invariant.0 c.in-Folder.is in
    found c.args.self.now c.in-Folder.children c.args.name.now (option_copied c.get.result) d (c.get.ensures.value ∙ ap (child c.in-Folder.children) c.by.ensures)

pub returns-clause-dir : goal.returns-clause-dir
returns-clause-dir c =
    let d = opened c.args.self.now c.self.inside.node c.in-Folder.children c.self.view_is c.self.invariant.0 c.in-Folder.is in
    if_some c.get.result (λ t. at_top c.args.self.now c.in-Folder.children d)

pub returns-in_default-node : goal.returns-in_default-node
returns-in_default-node c =
    let file = leaf_of c.self.inside.node c.in_default.not-Narrow c.in_default-node.not-Folder in
    record { found = λ q. at_file c.args.self.now c.self.inside.node file.0 c.args.name.now q c.self.view_is file.1; dir = tt }

pub returns-then-ne-clause-found : goal.returns-then-ne-clause-found
returns-then-ne-clause-found c =
    let d = opened_narrow c.args.self.now c.self.inside.node c.in-Narrow.own c.in-Narrow.child c.self.view_is c.in-Narrow.is in
    one_other c.args.self.now c.in-Narrow.own c.args.name.now c.in-Narrow.child.value d (is_called_else c.in-Narrow.own c.as_str.result.now c.args.name.now c.as_str.ensures c.if-ne.ensures)

pub returns-in-Narrow-clause-found : goal.returns-in-Narrow-clause-found
returns-in-Narrow-clause-found c =
    let d = opened_narrow c.args.self.now c.self.inside.node c.in-Narrow.own c.in-Narrow.child c.self.view_is c.in-Narrow.is in
    let called = is_called c.in-Narrow.own c.as_str.result.now c.args.name.now c.as_str.ensures c.if-ne.ensures in
    one_found c.args.self.now c.in-Narrow.own c.args.name.now c.in-Narrow.child.value c.deref.result.now d called c.deref.ensures

pub returns-in-Narrow-clause-dir : goal.returns-in-Narrow-clause-dir
returns-in-Narrow-clause-dir c =
    let d = opened_narrow c.args.self.now c.self.inside.node c.in-Narrow.own c.in-Narrow.child c.self.view_is c.in-Narrow.is in
    at_top c.args.self.now ((c.in-Narrow.own, c.in-Narrow.child.value) ∷ []) d
