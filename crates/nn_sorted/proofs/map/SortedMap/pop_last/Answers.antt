use Rattle.std.proofs.Common.{arith}
use Rattle.nn_sorted.specs.Chunks.{flat}
use Rattle.nn_sorted.proofs.Maps.{front_sorted, front_length}
use Rattle.nn_sorted.proofs.map.SortedMap.pop_last.Goals as goal

pub invariant_of-self-2 : goal.invariant_of-self-2
invariant_of-self-2 g c =
    let l = front_length c.self.inside.chunks.items (flat c.take_last.new.chunks.items) c.in-Some.entry c.in-Some.ensures.last in
    let s = front_sorted c.self.inside.chunks.items (flat c.take_last.new.chunks.items) c.in-Some.entry c.in-Some.ensures.last g.K.Ord.cmp c.self.invariant.1 in
    (c.in-Some.ensures.filled, s, omega (arith, l, c.self.invariant.2), omega (arith, c.self.invariant.3))

pub returns-clause-ordered : goal.returns-clause-ordered
returns-clause-ordered g c = front_sorted c.self.inside.chunks.items (flat c.take_last.new.chunks.items) c.in-Some.entry c.in-Some.ensures.last g.K.Ord.cmp c.self.invariant.1
