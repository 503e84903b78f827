use Rattle.nn_tree.proofs.Walk.{if_ok}
use Rattle.nn_tree.proofs.Step.{on_err, written}
use Rattle.nn_tree.proofs.Descent.{changed_left, refused_left, last_left, none_found, narrow_other, folder_stays, folder_other, more_left, folder_step, narrow_step, changed_further, refused_further}
use Rattle.std.proofs.Common.{length, arith, [], ◌∷◌, ap, ◌∙◌}
use Rattle.nn_tree.proofs.Subtree.{child, with_child, dir_rows}
use Rattle.nn_tree.proofs.tree.Tree.+change_at.Goals as goal

pub returns-clause-changed : goal.returns-clause-changed
returns-clause-changed g t c =
    let s = folder_step c.args.self.now c.self.inside.node c.in-Folder.children c.in-Some.first.now c.by.result c.in-Some-get_mut_near.child.now c.change_at-2.new.self c.self.view_is c.self.invariant c.in-Folder.is c.in-Some-get_mut_near.ensures.value c.by.ensures in
    if_ok c.change_at-2.result (λ given. changed_further c.args.self.now (dir_rows (with_child c.in-Folder.children c.by.result c.change_at-2.new.self)) c.in-Some-get_mut_near.child.now c.change_at-2.new.self c.in-Some.first.now c.in-Some.rest c.args.names.now (λ rest t w. g.C.Change.changes c.args.change rest t w given) c.in-Some.ensures.some s) c.change_at-2.ensures.changed

pub returns-clause-refused : goal.returns-clause-refused
returns-clause-refused g t c =
    let s = folder_step c.args.self.now c.self.inside.node c.in-Folder.children c.in-Some.first.now c.by.result c.in-Some-get_mut_near.child.now c.change_at-2.new.self c.self.view_is c.self.invariant c.in-Folder.is c.in-Some-get_mut_near.ensures.value c.by.ensures in
    on_err c.change_at-2.result (refused_further c.args.self.now (dir_rows (with_child c.in-Folder.children c.by.result c.change_at-2.new.self)) c.in-Some-get_mut_near.child.now c.change_at-2.new.self c.in-Some.first.now c.in-Some.rest c.args.names.now (g.C.Change.refuses c.args.change) c.in-Some.ensures.some s) c.change_at-2.ensures.refused

pub returns-clause-same : goal.returns-clause-same
returns-clause-same g t c =
    let s = folder_step c.args.self.now c.self.inside.node c.in-Folder.children c.in-Some.first.now c.by.result c.in-Some-get_mut_near.child.now c.change_at-2.new.self c.self.view_is c.self.invariant c.in-Folder.is c.in-Some-get_mut_near.ensures.value c.by.ensures in
    on_err c.change_at-2.result s.same c.change_at-2.ensures.same

pub returns-clause-order : goal.returns-clause-order
returns-clause-order g t c =
    let s = folder_step c.args.self.now c.self.inside.node c.in-Folder.children c.in-Some.first.now c.by.result c.in-Some-get_mut_near.child.now c.change_at-2.new.self c.self.view_is c.self.invariant c.in-Folder.is c.in-Some-get_mut_near.ensures.value c.by.ensures in
    s.order c.change_at-2.ensures.order

pub returns-in-Narrow-clause-changed : goal.returns-in-Narrow-clause-changed
returns-in-Narrow-clause-changed g t c =
    let s = narrow_step c.args.self.now c.self.inside.node c.in-Narrow.name c.in-Narrow.child c.as_str.result.now c.in-Some.first.now c.deref_mut.result.now c.change_at.new.self c.self.view_is c.self.invariant.1 c.in-Narrow.is c.as_str.ensures c.if-ne.ensures c.deref_mut.ensures.value in
    if_ok c.change_at.result (λ given. changed_further c.args.self.now (dir_rows ((c.in-Narrow.name, c.change_at.new.self) ∷ [])) c.deref_mut.result.now c.change_at.new.self c.in-Some.first.now c.in-Some.rest c.args.names.now (λ rest t w. g.C.Change.changes c.args.change rest t w given) c.in-Some.ensures.some s) c.change_at.ensures.changed

pub returns-in-Narrow-clause-refused : goal.returns-in-Narrow-clause-refused
returns-in-Narrow-clause-refused g t c =
    let s = narrow_step c.args.self.now c.self.inside.node c.in-Narrow.name c.in-Narrow.child c.as_str.result.now c.in-Some.first.now c.deref_mut.result.now c.change_at.new.self c.self.view_is c.self.invariant.1 c.in-Narrow.is c.as_str.ensures c.if-ne.ensures c.deref_mut.ensures.value in
    on_err c.change_at.result (refused_further c.args.self.now (dir_rows ((c.in-Narrow.name, c.change_at.new.self) ∷ [])) c.deref_mut.result.now c.change_at.new.self c.in-Some.first.now c.in-Some.rest c.args.names.now (g.C.Change.refuses c.args.change) c.in-Some.ensures.some s) c.change_at.ensures.refused

pub returns-in-Narrow-clause-same : goal.returns-in-Narrow-clause-same
returns-in-Narrow-clause-same g t c =
    let s = narrow_step c.args.self.now c.self.inside.node c.in-Narrow.name c.in-Narrow.child c.as_str.result.now c.in-Some.first.now c.deref_mut.result.now c.change_at.new.self c.self.view_is c.self.invariant.1 c.in-Narrow.is c.as_str.ensures c.if-ne.ensures c.deref_mut.ensures.value in
    on_err c.change_at.result s.same c.change_at.ensures.same

pub returns-in-Narrow-clause-order : goal.returns-in-Narrow-clause-order
returns-in-Narrow-clause-order g t c =
    let s = narrow_step c.args.self.now c.self.inside.node c.in-Narrow.name c.in-Narrow.child c.as_str.result.now c.in-Some.first.now c.deref_mut.result.now c.change_at.new.self c.self.view_is c.self.invariant.1 c.in-Narrow.is c.as_str.ensures c.if-ne.ensures c.deref_mut.ensures.value in
    s.order c.change_at.ensures.order

-- ---- where the walk ends
pub returns-in_default-clause-changed : goal.returns-in_default-clause-changed
returns-in_default-clause-changed g t c = if_ok c.change.result (λ given. changed_left c.args.self.now c.change.new.tree c.args.names.now [] (λ rest t w. g.C.Change.changes c.args.change rest t w given) c.in_default.ensures.none) c.change.ensures.changed

pub returns-in_default-clause-refused : goal.returns-in_default-clause-refused
returns-in_default-clause-refused g t c = on_err c.change.result (refused_left c.args.self.now c.args.names.now [] (g.C.Change.refuses c.args.change) c.in_default.ensures.none) c.change.ensures.refused

pub returns-then-ends-clause-changed : goal.returns-then-ends-clause-changed
returns-then-ends-clause-changed g t c =
    let e = last_left c.in-Some.first.now c.is_in_parent.result c.in-Some.rest c.args.names.now c.in-Some.ensures.some c.if-ends.ensures in
    if_ok c.change-then-ends.result (λ given. changed_left c.args.self.now c.change-then-ends.new.tree c.args.names.now (c.in-Some.first.now ∷ []) (λ rest t w. g.C.Change.changes c.args.change rest t w given) e) c.change-then-ends.ensures.changed

pub returns-then-ends-clause-refused : goal.returns-then-ends-clause-refused
returns-then-ends-clause-refused g t c =
    let e = last_left c.in-Some.first.now c.is_in_parent.result c.in-Some.rest c.args.names.now c.in-Some.ensures.some c.if-ends.ensures in
    on_err c.change-then-ends.result (refused_left c.args.self.now c.args.names.now (c.in-Some.first.now ∷ []) (g.C.Change.refuses c.args.change) e) c.change-then-ends.ensures.refused

pub returns-then-ne-clause-refused : goal.returns-then-ne-clause-refused
returns-then-ne-clause-refused g t c =
    none_found c.args.self.now c.in-Some.first.now c.in-Some.rest c.args.names.now (g.C.Change.refuses c.args.change) c.in-Some.ensures.some
    (narrow_other c.args.self.now c.self.inside.node c.in-Narrow.name c.in-Narrow.child c.as_str.result.now c.in-Some.first.now c.self.view_is c.in-Narrow.is c.as_str.ensures c.if-ne.ensures)

pub returns-in_default-get_mut_near : goal.returns-in_default-get_mut_near
returns-in_default-get_mut_near g t c =
    let stays = folder_stays c.args.self.now c.self.inside.node c.in-Folder.children c.self.view_is c.self.invariant c.in-Folder.is in
    record {
      changed = tt;
      refused = none_found c.args.self.now c.in-Some.first.now c.in-Some.rest c.args.names.now (g.C.Change.refuses c.args.change) c.in-Some.ensures.some
          (folder_other c.args.self.now c.self.inside.node c.in-Folder.children c.in-Some.first.now c.self.view_is c.self.invariant c.in-Folder.is (c.in_default-get_mut_near.ensures.value ∙ ap (child c.in-Folder.children) c.by.ensures));
      same = stays.0;
      order = stays.1;
    }

-- ---- the names that are left
pub change_at-requires : goal.change_at-requires
change_at-requires g t c = let fits = more_left g.C.Change.in_parent c.is_in_parent.result c.in-Some.rest c.is_in_parent.ensures c.if-ends.ensures in λ κs l. (omega (arith, c.decreases, ap length c.in-Some.ensures.some), (l.0, (l.1, fits)))

pub change_at-requires-2 : goal.change_at-requires-2
change_at-requires-2 g t c = let fits = more_left g.C.Change.in_parent c.is_in_parent.result c.in-Some.rest c.is_in_parent.ensures c.if-ends.ensures in λ κs l. (omega (arith, c.decreases, ap length c.in-Some.ensures.some), (l.0, (l.1, fits)))

-- ---- the order of the whole
pub invariant_of-self-in-Narrow : goal.invariant_of-self-in-Narrow
invariant_of-self-in-Narrow g t c =
    let s = narrow_step c.args.self.now c.self.inside.node c.in-Narrow.name c.in-Narrow.child c.as_str.result.now c.in-Some.first.now c.deref_mut.result.now c.change_at.new.self c.self.view_is c.self.invariant.1 c.in-Narrow.is c.as_str.ensures c.if-ne.ensures c.deref_mut.ensures.value in
    (tt, s.order c.change_at.ensures.order)

pub invariant_of-self-2 : goal.invariant_of-self-2
invariant_of-self-2 g t c =
    let s = folder_step c.args.self.now c.self.inside.node c.in-Folder.children c.in-Some.first.now c.by.result c.in-Some-get_mut_near.child.now c.change_at-2.new.self c.self.view_is c.self.invariant c.in-Folder.is c.in-Some-get_mut_near.ensures.value c.by.ensures in
    let b = written c.in-Folder.children c.by.result c.in-Some-get_mut_near.child.now c.change_at-2.new.self c.in-Some-get_mut_near.ensures.value c.in-Some-get_mut_near.ensures.ordered in
    (b.ordered, s.order c.change_at-2.ensures.order)
