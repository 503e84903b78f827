use Rattle.std.proofs.Common.{[], ◌∷◌, ◌++◌, append-nil, ap, ◌∙◌}
use Rattle.nn_sorted.specs.Chunks.{flat}
use Rattle.nn_sorted.proofs.Changes.{flat-append}
use Rattle.nn_sorted.proofs.chunks.add.Goals as goal

pub returns-clause-ok : goal.returns-clause-ok
returns-clause-ok g c =
    let entry = c.push_reserved.ensures.items ∙ ap (λ l. l ++ c.args.entry ∷ []) (c.reserve_exact.ensures.items ∙ c.new-chunk.ensures.items) in
    ap flat c.push_reserved-2.ensures.items ∙ flat-append c.make_room.new.chunks.items (c.push_reserved.new.self ∷ []) ∙ (λ i. flat (c.make_room.ensures.items i) ++ append-nil (entry i) i)
