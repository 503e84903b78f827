use Rattle.std.proofs.Common.{sym, ap, arith, length, ◌∙◌}
use Rattle.std.specs.FinMap.Entries.{is_sorted}
use Rattle.nn_model.specs.Namespace.{path_cmp}
use Rattle.nn_tree.specs.Flat.{below}
use Rattle.nn_tree.specs.Work.{rows_left}
use Rattle.nn_tree.proofs.Work.{last_rows, order_popped}
use Rattle.nn_tree.proofs.tree.last_child.Goals as goal

pub returns-clause-rows : goal.returns-clause-rows
returns-clause-rows c =
    last_rows (c.in-Some-pop_last._name, c.in-Some-pop_last.last) c.in-Some.rest c.pop_last.new.self c.in-Some-pop_last.ensures.last ∙ sym (ap (λ o. length (rows_left o)) c.in-Some.is)

pub returns-clause-order : goal.returns-clause-order
returns-clause-order c =
    order_popped (c.in-Some-pop_last._name, c.in-Some-pop_last.last) c.in-Some.rest c.pop_last.new.self c.in-Some-pop_last.ensures.last
    (sym (ap (λ o. is_sorted path_cmp (rows_left o)) c.in-Some.is) ∙ c.requires)

pub returns-then-is_empty-clause-rows : goal.returns-then-is_empty-clause-rows
returns-then-is_empty-clause-rows c =
    let all = last_rows (c.in-Some-pop_last._name, c.in-Some-pop_last.last) c.in-Some.rest c.pop_last.new.self c.in-Some-pop_last.ensures.last ∙ sym (ap (λ o. length (rows_left o)) c.in-Some.is) in
    omega (arith, all, ap (λ cs. length (below cs)) (c.is_empty.ensures.0 c.if-is_empty.true))
