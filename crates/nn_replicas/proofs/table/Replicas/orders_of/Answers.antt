use Rattle.std.proofs.Common.{[], refl, ap, sym, subst, ◌∙◌, nat_cmp}
use Rattle.std.specs.Option.{option_copied}
use Rattle.std.specs.List.Sorted.{IsStrictlySortedBy}
use Rattle.nn_replicas.proofs.Listed.{ordered_ascend}
use Rattle.nn_replicas.proofs.Tables.{no_orders, orders_there}
use Rattle.nn_replicas.proofs.table.Replicas.orders_of.Goals as goal

pub returns-in_default-clause-all : goal.returns-in_default-clause-all
returns-in_default-clause-all c =
    c.new.ensures ∙ no_orders c.args.self.now c.self.inside.min c.args.block c.self.inside.entries c.self.view_is (sym (ap option_copied c.in_default.is) ∙ c.get.ensures.value)

pub returns-in_default-clause-order : goal.returns-in_default-clause-order
returns-in_default-clause-order c = subst (IsStrictlySortedBy nat_cmp) (sym c.new.ensures) (ordered_ascend [] refl)

pub returns-clause-all : goal.returns-clause-all
returns-clause-all c =
    c.orders.ensures.all ∙ orders_there c.args.self.now c.self.inside.min c.args.block c.self.inside.entries c.in-Some.entry.now c.self.view_is c.in-Some.ensures.value
