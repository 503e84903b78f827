use Rattle.std.proofs.Common.{ap, arith, ◌+◌, ◌<◌, length, ◌∙◌, sym, subst, ◌≡◌}
use Rattle.std.specs.Prelude.{IfSome}
use Rattle.nn_tree.specs.Flat.{flat, below}
use Rattle.nn_tree.specs.Work.{work, rows_left}
use Rattle.nn_tree.proofs.Work.{less_left, work-less, leaf_rows, folder_rows, narrow_rows}
use Rattle.nn_tree.proofs.tree.drop_top.Goals as goal

pub returns-in_default-clause-less : goal.returns-in_default-clause-less
returns-in_default-clause-less c =
    less_left c.last_child-in_default.result _ (length (flat c.args.node)) (length (rows_left c.args.rest)) c.last_child-in_default.ensures.rows (omega (arith, folder_rows c.args.node c.in-Folder.children c.in-Folder.is))

pub returns-in-Leaf-clause-less : goal.returns-in-Leaf-clause-less
returns-in-Leaf-clause-less c = less_left c.last_child.result _ (length (flat c.args.node)) (length (rows_left c.args.rest)) c.last_child.ensures.rows (omega (arith, leaf_rows c.args.node c.in-Leaf._file c.in-Leaf.is))

pub returns-in-Narrow-clause-less : goal.returns-in-Narrow-clause-less
returns-in-Narrow-clause-less c =
    work-less (length (flat c.args.node)) (length (rows_left c.args.rest)) (length c.into_inner.result) (length (rows_left c.args.rest))
    (omega (arith, narrow_rows c.args.node c.in-Narrow._name c.in-Narrow.child c.in-Narrow.is, ap length c.into_inner.ensures))

pub returns-in-Some-clause-less : goal.returns-in-Some-clause-less
returns-in-Some-clause-less c =
    let e : work (1 + length (below c.in-Folder.children)) (length (below c.in-Some.rest)) ≡ work (length (flat c.args.node)) (length (rows_left c.args.rest)) =
    ap (λ n. work n (length (below c.in-Some.rest))) (sym (folder_rows c.args.node c.in-Folder.children c.in-Folder.is)) ∙ ap (λ o. work (length (flat c.args.node)) (length (rows_left o))) (sym c.in-Some.is) in
    subst (λ w. IfSome c.hang_below.result (λ p. work (length p.0) (length (rows_left p.1)) < w)) e c.hang_below.ensures.less

pub returns-then-is_empty-clause-less : goal.returns-then-is_empty-clause-less
returns-then-is_empty-clause-less c =
    less_left c.last_child-then-is_empty.result _ (length (flat c.args.node)) (length (rows_left c.args.rest)) c.last_child-then-is_empty.ensures.rows (omega (arith, folder_rows c.args.node c.in-Folder.children c.in-Folder.is))
