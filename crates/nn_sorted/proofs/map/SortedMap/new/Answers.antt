use Rattle.nn_sorted.proofs.Maps.{starts}
use Rattle.nn_sorted.proofs.map.SortedMap.new.Goals as goal

pub invariant_of-result : goal.invariant_of-result
invariant_of-result g c = starts g.K.Ord.cmp c.new.result.items c.new.ensures.items
