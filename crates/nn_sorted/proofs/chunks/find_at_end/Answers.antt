use Rattle.std.proofs.Common.{◌≤◌, ◌+◌, ◌-◌, length, refl, sym, subst, arith}
use Rattle.std.proofs.lemmas.Option.{slice_get_read}
use Rattle.nn_sorted.proofs.Places.{found_at, absent_at_end}
use Rattle.nn_sorted.proofs.chunks.find_at_end.Goals as goal

pub returns-in-Equal-clause-found : goal.returns-in-Equal-clause-found
returns-in-Equal-clause-found g c =
    let x = c.in-Some.last.now in
    let e = c.index.result.now in
    let full : 1 ≤ length x.items = subst (λ v. 1 ≤ length v.items) (sym c.in-Some.ensures.item.1) (c.requires.filled (length c.args.chunks.now - 1) x (omega (arith, c.in-Some.ensures.item.3.0))) in
    let at = slice_get_read x.items _ (c.len-end.result - 1) e refl (omega (arith, full, c.len-end.ensures)) c.index.ensures in
    found_at (g.Q.Seek.order c.args.key) (g.met.Q.Seek.below c.args.key) c.args.chunks.now (length c.args.chunks.now - 1) (c.len-end.result - 1) x e c.requires.order (sym c.in-Some.ensures.value) at (sym c.in-Equal.ensures)

pub returns-in-Greater-clause-absent : goal.returns-in-Greater-clause-absent
returns-in-Greater-clause-absent g c =
    let x = c.in-Some.last.now in
    let e = c.index.result.now in
    let full : 1 ≤ length x.items = subst (λ v. 1 ≤ length v.items) (sym c.in-Some.ensures.item.1) (c.requires.filled (length c.args.chunks.now - 1) x (omega (arith, c.in-Some.ensures.item.3.0))) in
    let at = slice_get_read x.items _ (c.len-end.result - 1) e refl (omega (arith, full, c.len-end.ensures)) c.index.ensures in
    absent_at_end (g.Q.Seek.order c.args.key) (g.met.Q.Seek.below c.args.key) c.args.chunks.now (length c.args.chunks.now - 1) (c.len-end.result - 1) (c.len-end.result - 1 + 1) x e c.requires.order c.requires.filled
    (omega (arith, c.in-Some.ensures.item.3.0)) (sym c.in-Some.ensures.value) (omega (arith, full, c.len-end.ensures)) at (sym c.in-Greater.ensures) (omega arith)
