use Rattle.std.proofs.Common.{refl, sym, ap, subst, ◌∙◌, arith, inr}
use Rattle.std.proofs.lemmas.List.{length-set}
use Rattle.std.specs.Vec.{with_item}
use Rattle.std.specs.List.Sorted.{IsStrictlySortedBy}
use Rattle.std.specs.Map.{keys_of, lookup, set_value}
use Rattle.std.specs.BTreeMap.{is_at}
use Rattle.nn_sorted.proofs.Changes.{filled_in}
use Rattle.nn_sorted.proofs.Maps.{is_found, is_absent, within, looked_up, not_there, written, written_sorted, written_length, ends_alike}
use Rattle.nn_sorted.proofs.map.SortedMap.get_mut_near.Goals as goal

pub returns-in_default : goal.returns-in_default
returns-in_default g c =
    let q = g.Q.Seek.order c.args.key in
    let a = is_absent q c.self.inside.chunks.items c.deref.result.now c.find_near-near.result.0 c.in_default.field-0 c.find_near-near.result.1 c.deref.ensures.value c.in_default.is c.find_near-near.ensures.absent in
    let none = not_there q c.self.inside.chunks.items c.find_near-near.result.0 c.in_default.field-0 a g.K.Ord.cmp (g.met.Q.Seek.below c.args.key) c.self.invariant.1 in
    (ap inr c.self.view_is, record { writes_back = tt; value = sym none ∙ ap (lookup (is_at q)) c.self.view_is; ordered = subst (λ l. IsStrictlySortedBy g.K.Ord.cmp (keys_of l)) c.self.view_is c.self.invariant.1 })

pub index_mut-requires-2 : goal.index_mut-requires-2
index_mut-requires-2 g c =
    let q = g.Q.Seek.order c.args.key in
    let f = is_found q c.self.inside.chunks.items c.deref.result.now c.find_near-near.result.0 c.in-Ok.place c.find_near-near.result.1 c.deref.ensures.value c.in-Ok.is c.find_near-near.ensures.found in
    let w = within q c.self.inside.chunks.items c.find_near-near.result.0 c.in-Ok.place c.index_mut.result.now f c.index_mut.ensures.value in
    omega (arith, w, c.index_mut.result.now.ok)

pub invariant_of-self-lent : goal.invariant_of-self-lent
invariant_of-self-lent g c = λ w.
    let q = g.Q.Seek.order c.args.key in
    let f = is_found q c.self.inside.chunks.items c.deref.result.now c.find_near-near.result.0 c.in-Ok.place c.find_near-near.result.1 c.deref.ensures.value c.in-Ok.is c.find_near-near.ensures.found in
    let x = c.index_mut.result.now in
    let e = c.index_mut-2.result.now in
    let y = with_item x c.in-Ok.place (e.0, w) in
    let p = within q c.self.inside.chunks.items c.find_near-near.result.0 c.in-Ok.place x f c.index_mut.ensures.value in (
      filled_in c.self.inside.chunks.items c.find_near-near.result.0 y c.self.invariant.0 (omega (arith, p, length-set x.items c.in-Ok.place (e.0, w))),
      written_sorted q c.self.inside.chunks.items c.find_near-near.result.0 c.in-Ok.place x f c.index_mut.ensures.value e c.index_mut-2.ensures.value w y refl g.K.Ord.cmp c.self.invariant.1,
      c.self.invariant.2 ∙ sym (written_length q c.self.inside.chunks.items c.find_near-near.result.0 c.in-Ok.place x f c.index_mut.ensures.value e c.index_mut-2.ensures.value w y refl),
      c.self.invariant.3,
    )

pub returns : goal.returns
returns g c =
    let q = g.Q.Seek.order c.args.key in
    let f = is_found q c.self.inside.chunks.items c.deref.result.now c.find_near-near.result.0 c.in-Ok.place c.find_near-near.result.1 c.deref.ensures.value c.in-Ok.is c.find_near-near.ensures.found in
    let x = c.index_mut.result.now in
    let e = c.index_mut-2.result.now in
    let there = looked_up q c.self.inside.chunks.items c.find_near-near.result.0 c.in-Ok.place x f c.index_mut.ensures.value e c.index_mut-2.ensures.value in
    let ends = λ (w : g.row.V.Denot).
    written q c.self.inside.chunks.items c.find_near-near.result.0 c.in-Ok.place x f c.index_mut.ensures.value e c.index_mut-2.ensures.value w (with_item x c.in-Ok.place (e.0, w)) refl
    ∙ ap (λ l. set_value (is_at q) l w) c.self.view_is in
    (ends_alike ends, record { writes_back = tt; value = sym there ∙ ap (lookup (is_at q)) c.self.view_is; ordered = subst (λ l. IsStrictlySortedBy g.K.Ord.cmp (keys_of l)) c.self.view_is c.self.invariant.1 })
