use Rattle.std.proofs.Common.{[], ◌∷◌, Some, None, sym, ap, subst, ◌∙◌}
use Rattle.std.specs.FinMap.Entries.{is_sorted}
use Rattle.nn_model.specs.Namespace.{path_cmp}
use Rattle.nn_tree.specs.At.{at, IsSubtree, IsGrafted}
use Rattle.nn_tree.specs.Flat.{flat}
use Rattle.nn_tree.proofs.Subtree.{child, at_top, opened, opened_narrow, found}
use Rattle.nn_tree.proofs.Step.{Becomes, taken_out, graft_here, graft_nothing, is_called, one_found, one_gone}
use Rattle.nn_tree.proofs.Walk.{walk_last}
use Rattle.nn_tree.proofs.Descent.{narrow_other, same_child}
use Rattle.nn_tree.proofs.InOrder.{stays_sorted}
use Rattle.nn_tree.proofs.tree.Tree.take_child.Goals as goal

-- ---- a directory with one child
pub returns-then-ne-clause-none : goal.returns-then-ne-clause-none
returns-then-ne-clause-none c = narrow_other c.args.self.now c.self.inside.node c.in-Narrow.own c.in-Narrow._child c.as_str.result.now c.args.name.now c.self.view_is c.in-Narrow.is c.as_str.ensures c.if-ne.ensures

pub returns-in-Narrow-clause-ok : goal.returns-in-Narrow-clause-ok
returns-in-Narrow-clause-ok c =
    let n = c.args.name.now in
    let one = (c.in-Narrow.own, c.in-Narrow._child.value) ∷ [] in
    let d = opened_narrow c.args.self.now c.self.inside.node c.in-Narrow.own c.in-Narrow._child c.self.view_is c.in-Narrow.is in
    let called = is_called c.in-Narrow.own c.as_str.result.now n c.as_str.ensures c.if-ne.ensures in
    let taken = c.into_inner.ensures ∙ ap (λ child. child.value) (same_child c.replace.result c.in-Narrow-replace._own c.in-Narrow.own c.in-Narrow-replace.child c.in-Narrow._child c.in-Narrow-replace.is (c.replace.ensures.value ∙ c.in-Narrow.is)) in (
      walk_last c.args.self.now n (n ∷ []) (λ j. n ∷ []) (at_top c.args.self.now one d),
      one_found c.args.self.now c.in-Narrow.own n c.in-Narrow._child.value c.into_inner.result d called taken,
      subst (λ node. IsGrafted c.args.self.now (n ∷ []) None (flat node)) (sym c.replace.ensures.after)
          (graft_here c.args.self.now one c.new.result n None d (subst (λ es. Becomes one es n None) (sym c.new.ensures) (one_gone c.in-Narrow.own n c.in-Narrow._child.value called))),
    )

-- ---- any directory
pub returns-in_default-remove : goal.returns-in_default-remove
returns-in_default-remove c =
    let n = c.args.name.now in
    let d = opened c.args.self.now c.self.inside.node c.in-Folder.children c.self.view_is c.self.invariant.0 c.in-Folder.is in
    let b = subst (λ x. Becomes c.in-Folder.children c.remove.new.self x None) c.by.ensures (taken_out c.in-Folder.children c.remove.new.self c.by.result c.in_default-remove.ensures.entries d.ordered c.in_default-remove.ensures.ordered) in
    let none : IsSubtree c.args.self.now (n ∷ []) None = found c.args.self.now c.in-Folder.children n None d (c.in_default-remove.ensures.value ∙ ap (child c.in-Folder.children) c.by.ensures) in
    record {
      ok = tt;
      none = none;
      same = λ q. graft_here c.args.self.now c.in-Folder.children c.remove.new.self n None d b q ∙ graft_nothing (at c.args.self.now) (n ∷ []) none q;
    }

pub returns : goal.returns
returns c =
    let n = c.args.name.now in
    let d = opened c.args.self.now c.self.inside.node c.in-Folder.children c.self.view_is c.self.invariant.0 c.in-Folder.is in
    let b = subst (λ x. Becomes c.in-Folder.children c.remove.new.self x None) c.by.ensures (taken_out c.in-Folder.children c.remove.new.self c.by.result c.in-Some.ensures.entries d.ordered c.in-Some.ensures.ordered) in
    record {
      ok = (
        walk_last c.args.self.now n (n ∷ []) (λ j. n ∷ []) (at_top c.args.self.now c.in-Folder.children d),
        found c.args.self.now c.in-Folder.children n (Some c.in-Some.tree) d (c.in-Some.ensures.value ∙ ap (child c.in-Folder.children) c.by.ensures),
        graft_here c.args.self.now c.in-Folder.children c.remove.new.self n None d b,
      );
      none = tt;
      same = tt;
    }

pub invariant_of-self-2 : goal.invariant_of-self-2
invariant_of-self-2 c =
    let d = opened c.args.self.now c.self.inside.node c.in-Folder.children c.self.view_is c.self.invariant.0 c.in-Folder.is in
    let b = subst (λ x. Becomes c.in-Folder.children c.remove.new.self x None) c.by.ensures (taken_out c.in-Folder.children c.remove.new.self c.by.result c.in-Some.ensures.entries d.ordered c.in-Some.ensures.ordered) in
    (c.in-Some.ensures.ordered, stays_sorted c.args.self.now c.in-Folder.children c.remove.new.self c.args.name.now None d b (ap (is_sorted path_cmp) (sym c.self.view_is) ∙ c.self.invariant.1) tt)

pub invariant_of-self-in_default-remove : goal.invariant_of-self-in_default-remove
invariant_of-self-in_default-remove c =
    let d = opened c.args.self.now c.self.inside.node c.in-Folder.children c.self.view_is c.self.invariant.0 c.in-Folder.is in
    let b = subst (λ x. Becomes c.in-Folder.children c.remove.new.self x None) c.by.ensures (taken_out c.in-Folder.children c.remove.new.self c.by.result c.in_default-remove.ensures.entries d.ordered c.in_default-remove.ensures.ordered) in
    (c.in_default-remove.ensures.ordered, stays_sorted c.args.self.now c.in-Folder.children c.remove.new.self c.args.name.now None d b (ap (is_sorted path_cmp) (sym c.self.view_is) ∙ c.self.invariant.1) tt)
