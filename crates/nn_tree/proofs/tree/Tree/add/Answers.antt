use Rattle.std.proofs.Common.{◌≡◌, ◌∷◌, [], ℕ, List, Some, None, sym, ap, ◌∙◌, refl, subst}
use Rattle.nn_tree.specs.declared.tree.Tree.{Tree}
use Rattle.nn_tree.proofs.Subtree.{child, with_child, opened, one_in_order, dir_rows}
use Rattle.nn_tree.proofs.ByName.{inserted_here}
use Rattle.nn_tree.proofs.Step.{Becomes, put_in, written, one_made}
use Rattle.nn_tree.proofs.Changed.{made_here, put_back}
use Rattle.std.specs.FinMap.Entries.{is_sorted}
use Rattle.nn_model.specs.Namespace.{path_cmp}
use Rattle.nn_tree.proofs.Sorted.{sorted_rows}
use Rattle.nn_tree.proofs.InOrder.{stays_sorted, child_sorted}
use Rattle.nn_tree.proofs.tree.Tree.add.Goals as goal

-- the first child
pub returns-then-is_empty-clause-ok : goal.returns-then-is_empty-clause-ok
returns-then-is_empty-clause-ok c =
    let d = opened c.args.self.now c.self.inside.node c.in-Folder.children (c.self.view_is ∙ c.widen.ensures) c.self.invariant.0 c.in-Folder.is in
    let n = c.args.name.now in
    let k = c.in-Ok-of.key in
    let none = (c.is_empty.ensures.0 c.if-is_empty.true) in
    let first : Becomes [] ((k, c.in-Ok-new.child.value) ∷ []) n (Some c.args.tree) =
    subst (λ w. Becomes [] ((k, w) ∷ []) n (Some c.args.tree)) (sym c.in-Ok-new.ensures.ok) (one_made k n c.args.tree c.in-Ok-of.ensures) in
    made_here c.args.self.now c.in-Folder.children ((k, c.in-Ok-new.child.value) ∷ []) n (n ∷ []) c.args.tree refl d (ap (λ cs. child cs n) none)
    (subst (λ cs. Becomes cs ((k, c.in-Ok-new.child.value) ∷ []) n (Some c.args.tree)) (sym none) first)

-- one more child
pub returns-in_default-before-clause-ok : goal.returns-in_default-before-clause-ok
returns-in_default-before-clause-ok c =
    let d = opened c.args.self.now c.self.inside.node c.in-Folder.children (c.self.view_is ∙ c.widen.ensures) c.self.invariant.0 c.in-Folder.is in
    let n = c.in-Ok-of.key in
    let none : child c.in-Folder.children n ≡ None = sym c.in-Ok-insert.ensures.old ∙ c.in_default-before.is in
    let b = put_in c.in-Folder.children c.insert.new.self c.in-Ok-of.key c.args.tree c.in-Ok-insert.ensures.entries c.in-Ok-insert.ensures.ordered in
    made_here c.args.self.now c.in-Folder.children c.insert.new.self n (c.args.name.now ∷ []) c.args.tree (ap (λ y. y ∷ []) (sym c.in-Ok-of.ensures)) d none b

-- a child of that name stays
pub returns-clause-err : goal.returns-clause-err
returns-clause-err c =
    let d = opened c.args.self.now c.self.inside.node c.in-Folder.children (c.self.view_is ∙ c.widen.ensures) c.self.invariant.0 c.in-Folder.is in
    let n = c.in-Ok-of.key in
    let w : Tree = c.in-Some.before in
    let l = with_child c.insert.new.self c.by.result w in
    let was : Some w ≡ child c.in-Folder.children n = sym c.in-Some.is ∙ c.in-Ok-insert.ensures.old in
    let b = put_in c.in-Folder.children c.insert.new.self c.in-Ok-of.key c.args.tree c.in-Ok-insert.ensures.entries c.in-Ok-insert.ensures.ordered in
    let back = written c.insert.new.self c.by.result c.in-Some-get_mut.place.now w c.in-Some-get_mut.ensures.value c.in-Ok-insert.ensures.ordered in
    put_back c.args.self.now c.in-Folder.children c.insert.new.self l n c.args.tree w d was b
    (subst (λ (x : List ℕ). Becomes c.insert.new.self l x (Some w)) (c.by.ensures ∙ sym c.in-Ok-of.ensures) back)

-- ---- the order of the whole
pub invariant_of-self-then-is_empty : goal.invariant_of-self-then-is_empty
invariant_of-self-then-is_empty c =
    let k = c.in-Ok-of.key in
    (tt, sorted_rows ((k, c.in-Ok-new.child.value) ∷ []) (one_in_order k) (ap (is_sorted path_cmp) c.in-Ok-new.ensures.ok ∙ c.recall_invariant.ensures, tt))

pub invariant_of-self-in_default-before : goal.invariant_of-self-in_default-before
invariant_of-self-in_default-before c =
    let seen = c.self.view_is ∙ c.widen.ensures in
    let d = opened c.args.self.now c.self.inside.node c.in-Folder.children seen c.self.invariant.0 c.in-Folder.is in
    let n = c.in-Ok-of.key in
    let b = put_in c.in-Folder.children c.insert.new.self c.in-Ok-of.key c.args.tree c.in-Ok-insert.ensures.entries c.in-Ok-insert.ensures.ordered in
    (c.in-Ok-insert.ensures.ordered, stays_sorted c.args.self.now c.in-Folder.children c.insert.new.self n (Some c.args.tree) d b (ap (is_sorted path_cmp) (sym seen) ∙ c.self.invariant.1) c.recall_invariant.ensures)

pub invariant_of-self-2 : goal.invariant_of-self-2
invariant_of-self-2 c =
    let seen = c.self.view_is ∙ c.widen.ensures in
    let d = opened c.args.self.now c.self.inside.node c.in-Folder.children seen c.self.invariant.0 c.in-Folder.is in
    let n = c.in-Ok-of.key in
    let w : Tree = c.in-Some.before in
    let l = with_child c.insert.new.self c.by.result w in
    let whole = ap (is_sorted path_cmp) (sym seen) ∙ c.self.invariant.1 in
    let was : Some w ≡ child c.in-Folder.children n = sym c.in-Some.is ∙ c.in-Ok-insert.ensures.old in
    let b = put_in c.in-Folder.children c.insert.new.self c.in-Ok-of.key c.args.tree c.in-Ok-insert.ensures.entries c.in-Ok-insert.ensures.ordered in
    let back = written c.insert.new.self c.by.result c.in-Some-get_mut.place.now w c.in-Some-get_mut.ensures.value c.in-Ok-insert.ensures.ordered in
    let between = stays_sorted c.args.self.now c.in-Folder.children c.insert.new.self n (Some c.args.tree) d b whole c.recall_invariant.ensures in (
      back.ordered,
      stays_sorted (dir_rows c.insert.new.self) c.insert.new.self l c.by.result (Some w) (record { is = refl; ordered = b.ordered }) back between
          (child_sorted c.args.self.now c.in-Folder.children n w d whole was),
    )

-- the child that was put in is found
pub unreachable-requires : goal.unreachable-requires
unreachable-requires c =
    let k = c.in-Ok-of.key in
    let there : child c.insert.new.self c.args.name.now ≡ Some c.args.tree =
    ap (child c.insert.new.self) (sym c.in-Ok-of.ensures) ∙ ap (λ cs. child cs k) c.in-Ok-insert.ensures.entries ∙ inserted_here k c.args.tree c.in-Folder.children in
    let clash : None ≡ Some c.args.tree = c.in_default-get_mut.ensures.value ∙ ap (child c.insert.new.self) c.by.ensures ∙ there in
    cc
