use Rattle.std.proofs.Common.{◌≡◌, ◌++◌, length}
use Rattle.nn_sorted.specs.Chunks.{flat}
use Rattle.nn_sorted.proofs.entries.EntriesIterator.next.Given as goal

-- an empty chunk that is passed takes no entry with it
abbrev pub invariant-loop-first : goal.invariant-loop-first
invariant-loop-first g l = l.self-inside.entries.now ++ flat l.self-inside.chunks.now ≡ l.initial.self-inside.entries.now ++ flat l.initial.self-inside.chunks.now

abbrev pub decreases-loop-first : goal.decreases-loop-first
decreases-loop-first g l = length l.self-inside.chunks.now
