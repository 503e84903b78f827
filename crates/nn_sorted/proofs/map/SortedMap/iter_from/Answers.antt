use Rattle.std.proofs.Common.{ap, ◌∙◌}
use Rattle.nn_sorted.specs.Chunks.{after}
use Rattle.nn_sorted.specs.Values.{entries_from}
use Rattle.nn_sorted.proofs.Maps.{is_found, is_absent, from_found, from_absent}
use Rattle.nn_sorted.proofs.map.SortedMap.iter_from.Goals as goal

pub returns-in-Ok : goal.returns-in-Ok
returns-in-Ok g c =
    let q = g.Q.Seek.order c.args.key in
    let f = is_found q c.self.inside.chunks.items c.deref.result.now c.find-chunk.result.0 c.in-Ok.place c.find-chunk.result.1 c.deref.ensures.value c.in-Ok.is c.find-chunk.ensures.found in
    c.from.ensures ∙ ap (λ cs. after cs c.find-chunk.result.0 c.in-Ok.place) c.deref-in-Ok.ensures.value ∙ from_found q c.self.inside.chunks.items c.find-chunk.result.0 c.in-Ok.place f ∙ ap (entries_from q) c.self.view_is

pub returns-in-Err : goal.returns-in-Err
returns-in-Err g c =
    let q = g.Q.Seek.order c.args.key in
    let f = is_absent q c.self.inside.chunks.items c.deref.result.now c.find-chunk.result.0 c.in-Err.place c.find-chunk.result.1 c.deref.ensures.value c.in-Err.is c.find-chunk.ensures.absent in
    c.from-in-Err.ensures ∙ ap (λ cs. after cs c.find-chunk.result.0 c.in-Err.place) c.deref-in-Err.ensures.value ∙ from_absent q c.self.inside.chunks.items c.find-chunk.result.0 c.in-Err.place f ∙ ap (entries_from q) c.self.view_is
