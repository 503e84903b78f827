use Rattle.std.specs.Prelude.{◌++◌, map, vec_items}
use Rattle.std.specs.List.{AllZip}
use Rattle.std.specs.Vec.Iter.{into_iter_items}
use Rattle.std.proofs.Common.{arith, sym, ap, ◌∙◌, subst, length}
use Rattle.nn_drive.specs.Serving.{IsOf}
use Rattle.nn_drive.specs.Served.{end_of, handle_of}
use Rattle.nn_drive.proofs.Paired.{map_step, map_done, none_of, zip_heads, zip_no_left, zip_none}
use Rattle.nn_drive.proofs.serving.calls.pair.Goals as goal

pub loop-handle-init : goal.loop-handle-init
loop-handle-init g c =
    let began = c.into_iter-handle-iterator.ensures.into_iter_gives in let none = c.requires.none in (
      subst (λ es. AllZip IsOf es (into_iter_items c.into_iter-handle-iterator.result)) (sym c.into_iter-rest.ensures.rest) (subst (λ hs. AllZip IsOf c.args.ends.items hs) (sym began.0) c.requires.own),
      ap (λ ps. map end_of ps ++ into_iter_items c.into_iter-rest.result) none ∙ c.into_iter-rest.ensures.rest,
      ap (λ ps. map handle_of ps ++ into_iter_items c.into_iter-handle-iterator.result) none ∙ began.0,
      omega (arith, ap length none, c.requires.room, began.1, c.args.handles.ok.0, c.args.paired.ok.0),
    )

pub unreachable-requires : goal.unreachable-requires
unreachable-requires g c =
    let rest = into_iter_items c.loop-handle.rest in
    zip_no_left IsOf rest (into_iter_items c.loop-handle.handle-iterator) (into_iter_items c.next.new.self) c.in-Some.handle
    (none_of rest (omega (arith, c.in_default.ensures.cases.0, c.loop-handle.rest.rest.ok.0))) c.in-Some.ensures.steps.0 c.loop-handle.invariant.0

pub push_reserved-requires : goal.push_reserved-requires
push_reserved-requires g c = omega (arith, c.loop-handle.invariant.3, c.in-Some.ensures.steps.1, c.loop-handle.paired.ok.0)

pub loop-handle-preserved : goal.loop-handle-preserved
loop-handle-preserved g c =
    let was = c.loop-handle.invariant in let steps = c.in-Some.ensures.steps in let taken = c.in-Some-next.ensures.cases in
    let z = zip_heads IsOf (into_iter_items c.loop-handle.rest) (into_iter_items c.next-in-loop-handle.new.self) (into_iter_items c.loop-handle.handle-iterator) (into_iter_items c.next.new.self) c.in-Some-next.end c.in-Some.handle taken.0 steps.0 was.0 in (
      z.1,
      map_step end_of (vec_items c.loop-handle.paired) (vec_items c.push_reserved.new.self) _ (into_iter_items c.loop-handle.rest) (into_iter_items c.next-in-loop-handle.new.self) c.args.ends.items c.push_reserved.ensures.items taken.0 was.1,
      map_step handle_of (vec_items c.loop-handle.paired) (vec_items c.push_reserved.new.self) _ (into_iter_items c.loop-handle.handle-iterator) (into_iter_items c.next.new.self) c.args.handles.items c.push_reserved.ensures.items steps.0 was.2,
      omega (arith, was.3, steps.1, c.push_reserved.ensures.len, c.push_reserved.ensures.capacity),
    )

pub returns : goal.returns
returns g c =
    let was = c.loop-handle.invariant in
    let over = none_of (into_iter_items c.loop-handle.handle-iterator) (omega (arith, c.in-None.ensures.steps.0, c.loop-handle.handle-iterator.rest.ok.0)) in
    let out = zip_none IsOf (into_iter_items c.loop-handle.rest) (into_iter_items c.loop-handle.handle-iterator) over was.0 in (
      map_done end_of (vec_items c.loop-handle.paired) (into_iter_items c.loop-handle.rest) c.args.ends.items out was.1,
      map_done handle_of (vec_items c.loop-handle.paired) (into_iter_items c.loop-handle.handle-iterator) c.args.handles.items over was.2,
    )
