use Rattle.std.proofs.Common.{ap, ◌∙◌}
use Rattle.nn_sorted.specs.Chunks.{flat}
use Rattle.nn_sorted.proofs.Changes.{takes, taken, emptied, left_in, left_out, filled_out}
use Rattle.nn_sorted.proofs.chunks.take.Goals as goal

pub returns-then-is_empty-clause-taken : goal.returns-then-is_empty-clause-taken
returns-then-is_empty-clause-taken g c =
    taken c.args.chunks.now.items c.args.chunk c.args.place c.remove-entry.result c.index_mut.result.now c.remove-entry.new.self
    (takes c.args.chunks.now.items c.args.chunk c.args.place c.remove-entry.result c.index_mut.result.now c.remove-entry.new.self c.requires.in_chunks c.requires.in_chunk c.index_mut.ensures.value c.remove-entry.ensures.value c.remove-entry.ensures.items)

pub returns-then-is_empty-clause-flat : goal.returns-then-is_empty-clause-flat
returns-then-is_empty-clause-flat g c =
    let t = takes c.args.chunks.now.items c.args.chunk c.args.place c.remove-entry.result c.index_mut.result.now c.remove-entry.new.self c.requires.in_chunks c.requires.in_chunk c.index_mut.ensures.value c.remove-entry.ensures.value c.remove-entry.ensures.items in
    let none = emptied c.args.chunks.now.items c.args.chunk c.remove-entry.new.self c.index.result.now c.requires.in_chunks c.index.ensures c.if-is_empty.ensures in
    ap flat c.remove-empty.ensures.items ∙ left_out c.args.chunks.now.items c.args.chunk c.args.place c.remove-entry.result c.index_mut.result.now c.remove-entry.new.self t none

pub returns-then-is_empty-clause-filled : goal.returns-then-is_empty-clause-filled
returns-then-is_empty-clause-filled g c = rw c.remove-empty.ensures.items (filled_out c.args.chunks.now.items c.args.chunk c.remove-entry.new.self c.requires.filled)

pub returns-clause-taken : goal.returns-clause-taken
returns-clause-taken g c =
    taken c.args.chunks.now.items c.args.chunk c.args.place c.remove-entry.result c.index_mut.result.now c.remove-entry.new.self
    (takes c.args.chunks.now.items c.args.chunk c.args.place c.remove-entry.result c.index_mut.result.now c.remove-entry.new.self c.requires.in_chunks c.requires.in_chunk c.index_mut.ensures.value c.remove-entry.ensures.value c.remove-entry.ensures.items)

pub returns-clause-flat : goal.returns-clause-flat
returns-clause-flat g c =
    let t = takes c.args.chunks.now.items c.args.chunk c.args.place c.remove-entry.result c.index_mut.result.now c.remove-entry.new.self c.requires.in_chunks c.requires.in_chunk c.index_mut.ensures.value c.remove-entry.ensures.value c.remove-entry.ensures.items in
    c.join-2.ensures.flat ∙ c.join.ensures.flat ∙ left_in c.args.chunks.now.items c.args.chunk c.args.place c.remove-entry.result c.index_mut.result.now c.remove-entry.new.self t
