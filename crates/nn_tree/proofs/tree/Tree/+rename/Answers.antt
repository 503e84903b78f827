use Rattle.std.proofs.Common.{[], ◌∷◌, None}
use Rattle.nn_tree.proofs.Descent.{folder_step, narrow_step}
use Rattle.nn_tree.proofs.Step.{on_err, on_ok, written}
use Rattle.nn_tree.proofs.Subtree.{with_child, dir_rows, subtree_below}
use Rattle.nn_tree.proofs.Together.{same_first, renamed_further, applies_further}
use Rattle.nn_tree.proofs.tree.Tree.+rename.Goals as goal

pub returns-clause-applies : goal.returns-clause-applies
returns-clause-applies t c =
    let s = folder_step c.args.self.now c.self.inside.node c.in-Folder.children c.in-Some.first.now c.by.result c.in-Some-get_mut_near.child.now c.rename-2.new.self c.self.view_is c.self.invariant c.in-Folder.is c.in-Some-get_mut_near.ensures.value c.by.ensures in
    let d = same_first c.in-Some.first.now c.in-Some-split_first.other.now c.in-Some-split_first.dst_rest c.args.dst.now c.if-ne.ensures c.in-Some-split_first.ensures.some in
    on_ok c.rename-2.result (applies_further c.args.self.now (dir_rows (with_child c.in-Folder.children c.by.result c.rename-2.new.self)) c.in-Some-get_mut_near.child.now c.rename-2.new.self c.in-Some.first.now c.in-Some.src_rest c.in-Some-split_first.dst_rest c.args.src.now c.args.dst.now c.in-Some.ensures.some d s) c.rename-2.ensures.applies

pub returns-clause-free : goal.returns-clause-free
returns-clause-free t c =
    let s = folder_step c.args.self.now c.self.inside.node c.in-Folder.children c.in-Some.first.now c.by.result c.in-Some-get_mut_near.child.now c.rename-2.new.self c.self.view_is c.self.invariant c.in-Folder.is c.in-Some-get_mut_near.ensures.value c.by.ensures in
    let d = same_first c.in-Some.first.now c.in-Some-split_first.other.now c.in-Some-split_first.dst_rest c.args.dst.now c.if-ne.ensures c.in-Some-split_first.ensures.some in
    on_ok c.rename-2.result (subtree_below c.args.self.now c.in-Some-get_mut_near.child.now c.in-Some.first.now c.in-Some-split_first.dst_rest c.args.dst.now None d s.stands) c.rename-2.ensures.free

pub returns-clause-ok : goal.returns-clause-ok
returns-clause-ok t c =
    let s = folder_step c.args.self.now c.self.inside.node c.in-Folder.children c.in-Some.first.now c.by.result c.in-Some-get_mut_near.child.now c.rename-2.new.self c.self.view_is c.self.invariant c.in-Folder.is c.in-Some-get_mut_near.ensures.value c.by.ensures in
    let d = same_first c.in-Some.first.now c.in-Some-split_first.other.now c.in-Some-split_first.dst_rest c.args.dst.now c.if-ne.ensures c.in-Some-split_first.ensures.some in
    on_ok c.rename-2.result (renamed_further c.args.self.now (dir_rows (with_child c.in-Folder.children c.by.result c.rename-2.new.self)) c.in-Some-get_mut_near.child.now c.rename-2.new.self c.in-Some.first.now c.in-Some.src_rest c.in-Some-split_first.dst_rest c.args.src.now c.args.dst.now c.in-Some.ensures.some d s) c.rename-2.ensures.ok

pub returns-clause-err : goal.returns-clause-err
returns-clause-err t c =
    let s = folder_step c.args.self.now c.self.inside.node c.in-Folder.children c.in-Some.first.now c.by.result c.in-Some-get_mut_near.child.now c.rename-2.new.self c.self.view_is c.self.invariant c.in-Folder.is c.in-Some-get_mut_near.ensures.value c.by.ensures in
    on_err c.rename-2.result s.same c.rename-2.ensures.err

pub returns-clause-order : goal.returns-clause-order
returns-clause-order t c =
    let s = folder_step c.args.self.now c.self.inside.node c.in-Folder.children c.in-Some.first.now c.by.result c.in-Some-get_mut_near.child.now c.rename-2.new.self c.self.view_is c.self.invariant c.in-Folder.is c.in-Some-get_mut_near.ensures.value c.by.ensures in
    s.order c.rename-2.ensures.order

pub returns-in-Narrow-clause-applies : goal.returns-in-Narrow-clause-applies
returns-in-Narrow-clause-applies t c =
    let s = narrow_step c.args.self.now c.self.inside.node c.in-Narrow.name c.in-Narrow.child c.as_str.result.now c.in-Some.first.now c.deref_mut.result.now c.rename.new.self c.self.view_is c.self.invariant.1 c.in-Narrow.is c.as_str.ensures c.if-ne-2.ensures c.deref_mut.ensures.value in
    let d = same_first c.in-Some.first.now c.in-Some-split_first.other.now c.in-Some-split_first.dst_rest c.args.dst.now c.if-ne.ensures c.in-Some-split_first.ensures.some in
    on_ok c.rename.result (applies_further c.args.self.now (dir_rows ((c.in-Narrow.name, c.rename.new.self) ∷ [])) c.deref_mut.result.now c.rename.new.self c.in-Some.first.now c.in-Some.src_rest c.in-Some-split_first.dst_rest c.args.src.now c.args.dst.now c.in-Some.ensures.some d s) c.rename.ensures.applies

pub returns-in-Narrow-clause-free : goal.returns-in-Narrow-clause-free
returns-in-Narrow-clause-free t c =
    let s = narrow_step c.args.self.now c.self.inside.node c.in-Narrow.name c.in-Narrow.child c.as_str.result.now c.in-Some.first.now c.deref_mut.result.now c.rename.new.self c.self.view_is c.self.invariant.1 c.in-Narrow.is c.as_str.ensures c.if-ne-2.ensures c.deref_mut.ensures.value in
    let d = same_first c.in-Some.first.now c.in-Some-split_first.other.now c.in-Some-split_first.dst_rest c.args.dst.now c.if-ne.ensures c.in-Some-split_first.ensures.some in
    on_ok c.rename.result (subtree_below c.args.self.now c.deref_mut.result.now c.in-Some.first.now c.in-Some-split_first.dst_rest c.args.dst.now None d s.stands) c.rename.ensures.free

pub returns-in-Narrow-clause-ok : goal.returns-in-Narrow-clause-ok
returns-in-Narrow-clause-ok t c =
    let s = narrow_step c.args.self.now c.self.inside.node c.in-Narrow.name c.in-Narrow.child c.as_str.result.now c.in-Some.first.now c.deref_mut.result.now c.rename.new.self c.self.view_is c.self.invariant.1 c.in-Narrow.is c.as_str.ensures c.if-ne-2.ensures c.deref_mut.ensures.value in
    let d = same_first c.in-Some.first.now c.in-Some-split_first.other.now c.in-Some-split_first.dst_rest c.args.dst.now c.if-ne.ensures c.in-Some-split_first.ensures.some in
    on_ok c.rename.result (renamed_further c.args.self.now (dir_rows ((c.in-Narrow.name, c.rename.new.self) ∷ [])) c.deref_mut.result.now c.rename.new.self c.in-Some.first.now c.in-Some.src_rest c.in-Some-split_first.dst_rest c.args.src.now c.args.dst.now c.in-Some.ensures.some d s) c.rename.ensures.ok

pub returns-in-Narrow-clause-err : goal.returns-in-Narrow-clause-err
returns-in-Narrow-clause-err t c =
    let s = narrow_step c.args.self.now c.self.inside.node c.in-Narrow.name c.in-Narrow.child c.as_str.result.now c.in-Some.first.now c.deref_mut.result.now c.rename.new.self c.self.view_is c.self.invariant.1 c.in-Narrow.is c.as_str.ensures c.if-ne-2.ensures c.deref_mut.ensures.value in
    on_err c.rename.result s.same c.rename.ensures.err

pub returns-in-Narrow-clause-order : goal.returns-in-Narrow-clause-order
returns-in-Narrow-clause-order t c =
    let s = narrow_step c.args.self.now c.self.inside.node c.in-Narrow.name c.in-Narrow.child c.as_str.result.now c.in-Some.first.now c.deref_mut.result.now c.rename.new.self c.self.view_is c.self.invariant.1 c.in-Narrow.is c.as_str.ensures c.if-ne-2.ensures c.deref_mut.ensures.value in
    s.order c.rename.ensures.order

-- ---- the order of the whole
pub invariant_of-self-in-Narrow : goal.invariant_of-self-in-Narrow
invariant_of-self-in-Narrow t c =
    let s = narrow_step c.args.self.now c.self.inside.node c.in-Narrow.name c.in-Narrow.child c.as_str.result.now c.in-Some.first.now c.deref_mut.result.now c.rename.new.self c.self.view_is c.self.invariant.1 c.in-Narrow.is c.as_str.ensures c.if-ne-2.ensures c.deref_mut.ensures.value in
    (tt, s.order c.rename.ensures.order)

pub invariant_of-self-2 : goal.invariant_of-self-2
invariant_of-self-2 t c =
    let s = folder_step c.args.self.now c.self.inside.node c.in-Folder.children c.in-Some.first.now c.by.result c.in-Some-get_mut_near.child.now c.rename-2.new.self c.self.view_is c.self.invariant c.in-Folder.is c.in-Some-get_mut_near.ensures.value c.by.ensures in
    let b = written c.in-Folder.children c.by.result c.in-Some-get_mut_near.child.now c.rename-2.new.self c.in-Some-get_mut_near.ensures.value c.in-Some-get_mut_near.ensures.ordered in
    (b.ordered, s.order c.rename-2.ensures.order)
