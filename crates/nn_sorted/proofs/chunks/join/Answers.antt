use Rattle.std.proofs.Common.{length, ap, arith}
use Rattle.nn_sorted.proofs.Changes.{same_in, joins_flat, joins_filled}
use Rattle.nn_sorted.proofs.chunks.join.Goals as goal

pub returns-in_default-reserve-clause-flat : goal.returns-in_default-reserve-clause-flat
returns-in_default-reserve-clause-flat g c =
    same_in c.args.chunks.now.items c.args.chunk c.index_mut.result.now c.reserve.new.self (omega (arith, c.in-Some.ensures.lookup.3.0, ap length c.deref.ensures.value)) c.index_mut.ensures.value c.reserve.ensures.items

pub returns-clause-flat : goal.returns-clause-flat
returns-clause-flat g c =
    rw c.remove-next.ensures.items
    (joins_flat c.args.chunks.now.items c.args.chunk c.index_mut.result.now c.reserve.new.self c.remove-next.result c.index_mut-2.result.now c.append.new.self
    (omega (arith, c.in-Some-get.ensures.lookup.3.0, ap length c.deref-2.ensures.value), c.index_mut.ensures.value, c.reserve.ensures.items, c.remove-next.ensures.value, rw (← c.remove-next.ensures.items) c.index_mut-2.ensures.value, c.in-Ok-append.ensures.items))

pub returns-clause-filled : goal.returns-clause-filled
returns-clause-filled g c =
    rw c.remove-next.ensures.items
    (joins_filled c.args.chunks.now.items c.args.chunk c.index_mut.result.now c.reserve.new.self c.remove-next.result c.index_mut-2.result.now c.append.new.self
    (omega (arith, c.in-Some-get.ensures.lookup.3.0, ap length c.deref-2.ensures.value), c.index_mut.ensures.value, c.reserve.ensures.items, c.remove-next.ensures.value, rw (← c.remove-next.ensures.items) c.index_mut-2.ensures.value, c.in-Ok-append.ensures.items) c.requires)
