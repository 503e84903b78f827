use Rattle.std.proofs.Common.{arith}
use Rattle.nn_sorted.proofs.Changes.{cut_done, cut_filled}
use Rattle.nn_sorted.proofs.chunks.cut.Goals as goal

pub returns-clause-cut : goal.returns-clause-cut
returns-clause-cut g c =
    cut_done c.args.chunks.now.items c.reserve.new.self.items c.insert.new.self.items c.args.chunk 32 c.index_mut.result.now c.split_off.new.self c.in-Ok-split_off.upper c.requires.in_chunks c.requires.in_chunk
    (c.reserve.ensures.items, c.index_mut.ensures.value, c.in-Ok-split_off.ensures.items, c.in-Ok-split_off.ensures.tail, c.in-Ok-insert.ensures.items)

pub returns-clause-filled : goal.returns-clause-filled
returns-clause-filled g c =
    cut_filled c.args.chunks.now.items c.reserve.new.self.items c.insert.new.self.items c.args.chunk 32 c.index_mut.result.now c.split_off.new.self c.in-Ok-split_off.upper c.requires.in_chunks c.requires.in_chunk (omega arith) c.requires.filled
    (c.reserve.ensures.items, c.index_mut.ensures.value, c.in-Ok-split_off.ensures.items, c.in-Ok-split_off.ensures.tail, c.in-Ok-insert.ensures.items)
