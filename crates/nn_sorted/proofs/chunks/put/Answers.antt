use Rattle.std.proofs.Common.{[], ◌≡◌, subst}
use Rattle.nn_sorted.specs.Chunks.{flat, before, after}
use Rattle.nn_sorted.proofs.Changes.{added_behind, put_there, same_entries, on_err_then}
use Rattle.nn_sorted.proofs.chunks.put.Goals as goal

pub returns-then-begins_chunk-clause-ok : goal.returns-then-begins_chunk-clause-ok
returns-then-begins_chunk-clause-ok g c =
    let behind = subst (λ cs. (before cs c.args.chunk c.args.place ≡ flat cs) × (after cs c.args.chunk c.args.place ≡ [])) c.deref.ensures.value (c.begins_chunk.ensures.behind c.if-begins_chunk.true) in
    added_behind c.add.result c.args.chunks.now.items c.add.new.chunks.items c.args.chunk c.args.place c.args.entry behind c.add.ensures.ok

pub returns-clause-ok : goal.returns-clause-ok
returns-clause-ok g c =
    put_there c.put_in.result c.args.chunks.now.items c.make_place.new.chunks.items c.args.chunk c.args.place c.in-Ok.chunk c.in-Ok.place (flat c.put_in.new.chunks.items) c.args.entry c.in-Ok.ensures.ok c.put_in.ensures.ok

pub returns-clause-err : goal.returns-clause-err
returns-clause-err g c =
    on_err_then c.put_in.result _ _ _ c.put_in.ensures.err (same_entries c.args.chunks.now.items c.make_place.new.chunks.items c.args.chunk c.args.place c.in-Ok.chunk c.in-Ok.place c.in-Ok.ensures.ok)
