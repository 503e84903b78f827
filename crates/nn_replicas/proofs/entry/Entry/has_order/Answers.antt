use Rattle.std.proofs.Common.{◌<◌, ◌≤◌, true, false, length, get_or, ap, sym, subst, nat_eq, ◌∙◌, eq-eqb, ne_eqb}
use Rattle.nn_replicas.specs.Scan.{place}
use Rattle.nn_replicas.proofs.Written.{Cells, order_none, order_there}
use Rattle.nn_replicas.proofs.entry.Entry.has_order.Goals as goal

pub returns-in-None : goal.returns-in-None
returns-in-None c =
    let k = c.place_of.ensures ∙ ap (place c.args.dn) c.as_slice-2.ensures in
    order_none c.args.self.now c.self.inside.file c.self.inside.cells.items c.args.dn c.place_of.result c.self.view_is c.self.invariant k
    (subst (λ (xs : Cells). length xs ≤ c.place_of.result) c.as_slice.ensures c.in-None.ensures.lookup.3)

pub returns-then-dn : goal.returns-then-dn
returns-then-dn c =
    let k = c.place_of.ensures ∙ ap (place c.args.dn) c.as_slice-2.ensures in
    let h = c.in-Some.ensures.lookup.3 in
    ap (λ cell. cell.ordered) c.cell.ensures
    ∙ order_there c.args.self.now c.self.inside.file c.self.inside.cells.items c.args.dn c.place_of.result c.in-Some.slot.now true c.self.view_is c.self.invariant k
    (subst (λ (xs : Cells). c.place_of.result < length xs) c.as_slice.ensures h.0)
    (h.1 c.in-Some.slot.now ∙ ap (λ xs. get_or xs c.place_of.result c.in-Some.slot.now) c.as_slice.ensures) (ap (λ d. nat_eq d c.args.dn) (sym c.dn.ensures) ∙ eq-eqb _ _ c.if-dn.true)

pub returns-else-dn : goal.returns-else-dn
returns-else-dn c =
    let k = c.place_of.ensures ∙ ap (place c.args.dn) c.as_slice-2.ensures in
    let h = c.in-Some.ensures.lookup.3 in
    let other = ne_eqb c.dn.result c.args.dn c.if-dn.false in
    other
    ∙ order_there c.args.self.now c.self.inside.file c.self.inside.cells.items c.args.dn c.place_of.result c.in-Some.slot.now false c.self.view_is c.self.invariant k
    (subst (λ (xs : Cells). c.place_of.result < length xs) c.as_slice.ensures h.0)
    (h.1 c.in-Some.slot.now ∙ ap (λ xs. get_or xs c.place_of.result c.in-Some.slot.now) c.as_slice.ensures) (ap (λ d. nat_eq d c.args.dn) (sym c.dn.ensures) ∙ other)
