use Rattle.std.proofs.Common.{◌++◌, length, drop, ltb-false, sym, ap, ◌∙◌, arith}
use Rattle.nn_sorted.specs.Chunks.{flat}
use Rattle.nn_sorted.proofs.Changes.{after_in, after_none, has_place}
use Rattle.nn_sorted.proofs.entries.Entries.from.Goals as goal

pub returns-in_default : goal.returns-in_default
returns-in_default g c = sym (after_none c.args.chunks.now c.args.chunk c.args.place (ltb-false c.args.chunk (length c.args.chunks.now) (sym c.in_default.ensures.lookup.0)))

pub split_at-requires : goal.split_at-requires
split_at-requires g c =
    let m = has_place c.args.chunks.now c.args.chunk c.args.place c.in-Some.first.now c.in-Some.ensures.lookup.3.0 c.in-Some.ensures.lookup.1 c.requires.in_chunk in
    omega (arith, m, ap length c.as_slice.ensures.value)

pub returns : goal.returns
returns g c =
    (λ i. (c.split_at.ensures.back ∙ ap (drop c.args.place) c.as_slice.ensures.value) i ++ flat (c.split_at-2.ensures.back i))
    ∙ sym (after_in c.args.chunks.now c.args.chunk c.args.place c.in-Some.first.now c.in-Some.ensures.lookup.3.0 c.in-Some.ensures.lookup.1)
