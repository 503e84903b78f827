use Rattle.std.specs.Prelude.{◌≡◌, ◌+◌, get_or, vec_items, vec_len}
use Rattle.std.specs.Vec.Iter.{into_iter_items, into_iter_len}
use Rattle.std.proofs.Common.{rules, arith, subst, sym}
use Rattle.nn_lane.specs.Ends.{Reporter}
use Rattle.nn_drive.specs.Driven.{IsPromised}
use Rattle.nn_drive.proofs.Places.{each_more}
use Rattle.nn_drive.proofs.crew.Crew.start_all.Goals as goal

-- The worker that is started stood first among the rest, so its handle is at the next place.
pub loop-worker-preserved : goal.loop-worker-preserved
loop-worker-preserved g c =
    let was = c.loop-worker.invariant in let done = vec_len c.loop-worker.handles in
    let first = into_iter_items c.into_iter-worker-iterator.result in
    let pushed = c.push_reserved in let handle = c.in-Some-start.handle in
    let worker : g.row.S.Denot × Reporter = c.in-Some.worker in
    let grown : vec_len pushed.new.self ≡ done + 1 = search rules in (
      search rules,
      (λ k w below. let h = was.1 (k + 1) w in grind rules),
      (λ k w h below.
          let at = each_more (λ w h. IsPromised w h) first (vec_items c.loop-worker.handles) done handle (search rules) was.2
          (λ w. let here : get_or first done w ≡ worker = let h = was.1 0 w in grind rules in subst (λ p. IsPromised p handle) (sym here) c.in-Some-start.ensures) k w h (omega arith) in
          subst (λ hs. IsPromised (get_or first k w) (get_or hs k h)) (sym pushed.ensures.items) at),
      search rules,
    )

pub returns-in_default-start : goal.returns-in_default-start
returns-in_default-start g c =
    let was = c.loop-worker.invariant in let began = c.into_iter-worker-iterator.ensures.into_iter_gives in
    let len : vec_len c.loop-worker.handles + into_iter_len c.loop-worker.worker-iterator ≡ vec_len c.args.workers = omega (arith, was.0, began.1) in (
      search rules,
      (λ k w h below. subst (λ ws. IsPromised (get_or ws k w) (get_or (vec_items c.loop-worker.handles) k h)) began.0 (was.2 k w h (search rules))),
    )
