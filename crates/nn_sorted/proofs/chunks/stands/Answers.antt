use Rattle.std.proofs.Common.{slice_get, refl, sym, ap, ◌∙◌}
use Rattle.std.proofs.lemmas.Option.{slice_get_read}
use Rattle.nn_sorted.proofs.Places.{found_at, equal_of}
use Rattle.nn_sorted.proofs.chunks.stands.Goals as goal

pub returns : goal.returns
returns g c = λ equal.
    let q = g.Q.Seek.order c.args.key in
    let x = c.in-Some.entries.now in
    let e = c.in-Some-get.entry.now in
    let a = slice_get_read c.args.chunks.now _ c.args.chunk x refl c.in-Some.ensures.lookup.3.0 c.in-Some.ensures.lookup.1 in
    let b = slice_get_read c.deref.result.now _ c.args.place e refl c.in-Some-get.ensures.lookup.3.0 c.in-Some-get.ensures.lookup.1 in
    found_at q (g.met.Q.Seek.below c.args.key) c.args.chunks.now c.args.chunk c.args.place x e c.requires a
    (ap (λ l. slice_get l c.args.place) (sym c.deref.ensures.value) ∙ b) (equal_of (q e.0) (sym c.equals.ensures ∙ equal))
