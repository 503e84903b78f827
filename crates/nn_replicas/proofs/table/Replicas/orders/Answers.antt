use Rattle.std.proofs.Common.{ℕ, ap, sym, subst, ◌∙◌}
use Rattle.std.proofs.lemmas.List.{map-append}
use Rattle.std.specs.List.{flat_map}
use Rattle.std.specs.Map.Iter.{deref_pair}
use Rattle.std.proofs.lemmas.Map.Iter.{iter_end}
use Rattle.nn_replicas.proofs.Entries.{sorted_of}
use Rattle.nn_replicas.specs.Table.{BlockEntry}
use Rattle.nn_replicas.specs.Entry.{orders_in}
use Rattle.nn_replicas.specs.Calls.{orders_of}
use Rattle.nn_replicas.proofs.Listed.{Passed, passed_more, passed_all}
use Rattle.nn_replicas.proofs.table.Replicas.orders.Goals as goal

pub loop-block-preserved : goal.loop-block-preserved
loop-block-preserved c =
    subst (Passed c.push_orders.new.orders.items) (sym (map-append _ c.loop-block.yielded _))
    (passed_more c.loop-block.orders.items c.push_orders.new.orders.items _ (c.in-Some.block.now, c.in-Some.entry.now) c.loop-block.invariant c.in_ok-push_orders.ensures.ok c.in_ok-push_orders.ensures.order)

pub returns-clause-all : goal.returns-clause-all
returns-clause-all c =
    let e = iter_end deref_pair c.self.inside.entries c.loop-block.yielded c.into_iter-block-iterator.result c.loop-block.block-iterator c.next.new.self c.next.result (c.into_iter-block-iterator.ensures.into_iter_gives ∙ c.iter-block-items.ensures.all) c.loop-block.yielded_by c.in-None.is c.next.ensures.steps in
    c.loop-block.invariant.all ∙ ap (flat_map (λ (e : ℕ × BlockEntry). orders_in e.0 e.1.cells)) e.0 ∙ ap orders_of c.self.view_is

pub returns-clause-order : goal.returns-clause-order
returns-clause-order c =
    let e = iter_end deref_pair c.self.inside.entries c.loop-block.yielded c.into_iter-block-iterator.result c.loop-block.block-iterator c.next.new.self c.next.result (c.into_iter-block-iterator.ensures.into_iter_gives ∙ c.iter-block-items.ensures.all) c.loop-block.yielded_by c.in-None.is c.next.ensures.steps in
    passed_all c.loop-block.orders.items c.self.inside.entries (subst (Passed c.loop-block.orders.items) e.0 c.loop-block.invariant) (sorted_of c.self.inside.entries c.self.invariant.1)
