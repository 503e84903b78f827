use Rattle.std.proofs.Common.{sym, ap, ◌∙◌, arith}
use Rattle.std.specs.Map.{lookup}
use Rattle.std.specs.BTreeMap.{is_at}
use Rattle.nn_sorted.proofs.Maps.{is_found, is_absent, within, looked_up, not_there}
use Rattle.nn_sorted.proofs.map.SortedMap.get.Goals as goal

pub returns-in_default : goal.returns-in_default
returns-in_default g c =
    let q = g.Q.Seek.order c.args.key in
    let a = is_absent q c.self.inside.chunks.items c.deref.result.now c.find-chunk.result.0 c.in_default.field-0 c.find-chunk.result.1 c.deref.ensures.value c.in_default.is c.find-chunk.ensures.absent in
    let none = not_there q c.self.inside.chunks.items c.find-chunk.result.0 c.in_default.field-0 a g.K.Ord.cmp (g.met.Q.Seek.below c.args.key) c.self.invariant.1 in
    record { value = sym none ∙ ap (lookup (is_at q)) c.self.view_is }

pub index-requires-2 : goal.index-requires-2
index-requires-2 g c =
    let q = g.Q.Seek.order c.args.key in
    let f = is_found q c.self.inside.chunks.items c.deref.result.now c.find-chunk.result.0 c.in-Ok.place c.find-chunk.result.1 c.deref.ensures.value c.in-Ok.is c.find-chunk.ensures.found in
    let w = within q c.self.inside.chunks.items c.find-chunk.result.0 c.in-Ok.place c.index.result.now f c.index.ensures in
    omega (arith, w, c.index.result.now.ok)

pub returns : goal.returns
returns g c =
    let q = g.Q.Seek.order c.args.key in
    let f = is_found q c.self.inside.chunks.items c.deref.result.now c.find-chunk.result.0 c.in-Ok.place c.find-chunk.result.1 c.deref.ensures.value c.in-Ok.is c.find-chunk.ensures.found in
    let there = looked_up q c.self.inside.chunks.items c.find-chunk.result.0 c.in-Ok.place c.index.result.now f c.index.ensures c.index-2.result.now c.index-2.ensures in
    record { value = sym there ∙ ap (lookup (is_at q)) c.self.view_is }
