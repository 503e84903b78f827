use Rattle.std.specs.Prelude.{◌≡◌, ◌+◌, ◌<◌, ◌∷◌, [], true, false, get_or, length, vec_items}
use Rattle.std.specs.Vec.Iter.{into_iter_items}
use Rattle.std.proofs.Common.{rules, arith, subst, sym, ap, ◌∙◌, length-append}
use Rattle.nn_lane_standby.proofs.Fetched.{any_default}
use Rattle.nn_drive.specs.Driven.{IsJoined}
use Rattle.nn_drive.proofs.Joins.{TellsOn, joined_more, told_more}
use Rattle.nn_drive.proofs.driving.join_all.Goals as goal

pub loop-handle-init : goal.loop-handle-init
loop-handle-init g c =
    let began = c.into_iter-handle-iterator.ensures.into_iter_gives in (
      omega arith,
      (λ k h below. ap (λ j. get_or (into_iter_items c.into_iter-handle-iterator.result) j h) (let q : k ≡ 0 + k = omega arith in q)),
      ap length c.requires.none,
      omega (arith, c.requires.room, began.1, c.args.handles.ok.0),
      (λ k h e r below. absurd (omega (arith, below))),
      (λ t. absurd (let z : false ≡ true = t in cc)),
    )

-- the thread that is joined stood first among the rest, so its lane is at this place
pub bounds-ends-place : goal.bounds-ends-place
bounds-ends-place g c =
    let was = c.loop-handle.invariant in let began = c.into_iter-handle-iterator.ensures.into_iter_gives in let step = c.in-Some.ensures.steps in
    omega (arith, step.1, was.0, began.1, c.requires.fit, c.args.handles.ok.0)

pub push_reserved-requires : goal.push_reserved-requires
push_reserved-requires g c = let was = c.loop-handle.invariant in omega (arith, c.in-Some.ensures.steps.1, was.0, was.2, was.3, c.loop-handle.reporters.ok.0)

pub loop-handle-preserved : goal.loop-handle-preserved
loop-handle-preserved g c =
    let was = c.loop-handle.invariant in let place = c.loop-handle.place in let handle = c.in-Some.handle in
    let step = c.in-Some.ensures.steps in let began = c.into_iter-handle-iterator.ensures.into_iter_gives in
    let first = into_iter_items c.into_iter-handle-iterator.result in let ends = c.args.ends.now in
    let gives = g.S.ReportSource.gives in let worked = c.join-source.result in
    let here : (h : _) → get_or first place h ≡ handle = λ h. let at = was.1 0 h in grind rules in
    let in_ends : place < length ends = omega (arith, step.1, was.0, began.1, c.requires.fit, c.args.handles.ok.0) in
    let says : (e : _) → TellsOn c.loop-handle.told c.still_told-told.result worked (get_or ends place e) =
    λ e. subst (TellsOn c.loop-handle.told c.still_told-told.result worked) (c.index-ends-place.is ∙ any_default ends place c.index-ends-place.result e in_ends) c.still_told-told.ensures in
    let more = joined_more gives first ends place c.loop-handle.told c.still_told-told.result worked says handle here c.join-source.ensures
    (vec_items c.loop-handle.reporters) (vec_items c.push_reserved.new.self) was.2 c.push_reserved.ensures.items was.4 in (
      omega (arith, step.1, was.0),
      (λ k h below. let at = was.1 (k + 1) h in grind rules),
      (let q = ap length c.push_reserved.ensures.items ∙ length-append (vec_items c.loop-handle.reporters) (worked.reporter ∷ []) in omega (arith, q, was.2)),
      omega (arith, was.3, c.push_reserved.ensures.capacity),
      more,
      told_more gives first ends place c.loop-handle.told c.still_told-told.result worked says handle here c.join-source.ensures
          (vec_items c.loop-handle.reporters) (vec_items c.push_reserved.new.self) was.2 c.push_reserved.ensures.items c.index-ends-place.result in_ends was.5,
    )

pub returns : goal.returns
returns g c =
    let was = c.loop-handle.invariant in let began = c.into_iter-handle-iterator.ensures.into_iter_gives in
    let gives = g.S.ReportSource.gives in let ends = c.args.ends.now in let reporters = vec_items c.loop-handle.reporters in
    let all : length c.args.handles.items ≡ c.loop-handle.place = omega (arith, was.0, c.in-None.ensures.steps.0, began.1, c.args.handles.ok.0) in
    record {
      size = was.2 ∙ sym all;
      each = λ i h e r below.
          subst (λ hs. IsJoined gives c.loop-handle.told (get_or hs i h) (get_or ends i e) (get_or reporters i r)) began.0 (was.4 i h e r (omega (arith, below, all)));
      one = was.5;
    }
