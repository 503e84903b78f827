use Rattle.std.specs.Prelude.{◌++◌, ◌∷◌, [], reverse, vec_items}
use Rattle.std.specs.List.{AllZip}
use Rattle.std.proofs.Common.{sym, ap, ◌∙◌, subst, arith, append_assoc, append-nil}
use Rattle.nn_drive.specs.Driven.{IsPromised}
use Rattle.nn_drive.proofs.Meets.{zip_push}
use Rattle.nn_drive.proofs.Starts.{popped, others_back, one_refused}
use Rattle.nn_drive.proofs.crew.ServiceCrew.start_from_the_last.Goals as goal

pub returns-in_default-pop : goal.returns-in_default-pop
returns-in_default-pop g c =
    let was = c.loop-own.invariant.0 in let same = c.in_default-pop.ensures.items ∙ append-nil (vec_items c.pop.new.self) in
    others_back (reverse (vec_items c.args.workers.now)) was.0 (vec_items c.loop-own.handles) was.2 (reverse (vec_items c.pop.new.self)) (was.1 ∙ ap (λ ws. was.0 ++ reverse ws) same)

pub returns-in_default-start : goal.returns-in_default-start
returns-in_default-start g c =
    let was = c.loop-own.invariant.0 in let worker = c.in-Some.worker in
    let last = popped (vec_items c.loop-own.workers) (vec_items c.pop.new.self) worker c.in-Some.ensures.items in
    one_refused (reverse (vec_items c.args.workers.now)) was.0 (vec_items c.loop-own.handles) was.2 worker (reverse (vec_items c.pop.new.self)) (was.1 ∙ ap (λ ws. was.0 ++ ws) last)

-- The worker that is started stood last, so its handle is at the next place.
pub loop-own-preserved : goal.loop-own-preserved
loop-own-preserved g c =
    let was = c.loop-own.invariant.0 in let worker = c.in-Some.worker in
    let last = popped (vec_items c.loop-own.workers) (vec_items c.pop.new.self) worker c.in-Some.ensures.items in (
      (
        was.0 ++ worker ∷ [],
        was.1 ∙ ap (λ ws. was.0 ++ ws) last ∙ sym (append_assoc was.0 (worker ∷ []) (reverse (vec_items c.pop.new.self))),
        subst (λ hs. AllZip IsPromised (was.0 ++ worker ∷ []) hs) (sym c.push_reserved.ensures.items)
            (zip_push IsPromised was.0 (vec_items c.loop-own.handles) worker c.in-Some-start.handle was.2 c.in-Some-start.ensures),
      ),
      omega (arith, c.loop-own.invariant.1, c.in-Some.ensures.len, c.push_reserved.ensures.len, c.push_reserved.ensures.capacity),
    )

pub returns : goal.returns
returns g c =
    let was = c.loop-own.invariant.0 in
    others_back (reverse (vec_items c.args.workers.now)) was.0 (vec_items c.loop-own.handles) was.2 (reverse (vec_items c.loop-own.workers)) was.1
