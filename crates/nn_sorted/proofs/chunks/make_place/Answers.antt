use Rattle.std.proofs.Common.{◌≤◌, length, refl, arith}
use Rattle.std.proofs.lemmas.Option.{slice_get_read}
use Rattle.nn_sorted.proofs.Changes.{at_chunk}
use Rattle.nn_sorted.proofs.chunks.make_place.Goals as goal

pub cut-requires-clause-in_chunk : goal.cut-requires-clause-in_chunk
cut-requires-clause-in_chunk g c =
    let at = slice_get_read c.args.chunks.now.items _ c.args.chunk c.index.result.now refl c.requires.in_chunks c.index.ensures in
    at_chunk (λ x. 33 ≤ length x.items) c.args.chunks.now.items c.args.chunk c.index.result.now at (omega (arith, c.if-len-lt-FULL.false, c.len.ensures, c.index.result.now.ok))
