use Rattle.nn_sorted.proofs.Changes.{put_ok, put_err}
use Rattle.nn_sorted.proofs.chunks.put_in.Goals as goal

pub returns-clause-ok : goal.returns-clause-ok
returns-clause-ok g c =
    put_ok c.insert.result c.args.chunks.now.items c.args.chunk c.args.place c.args.entry c.index_mut.result.now c.insert.new.chunk c.requires.in_chunks c.index_mut.ensures.value c.insert.ensures.items

pub returns-clause-err : goal.returns-clause-err
returns-clause-err g c =
    put_err c.insert.result c.args.chunks.now.items c.args.chunk c.args.place c.args.entry c.index_mut.result.now c.insert.new.chunk c.requires.in_chunks c.index_mut.ensures.value c.insert.ensures.items
