use Rattle.std.proofs.Common.{◌∙◌, sym, ap, subst, refl, arith, length, ◌++◌, ◌∷◌, []}
use Rattle.std.specs.Option.{option_copied_mut}
use Rattle.nn_postponed.specs.Flat.{flat, AreOwn}
use Rattle.nn_postponed.specs.Queues.{queued}
use Rattle.nn_postponed.proofs.postponed.Postponed.push.Goals as goal
use Rattle.nn_postponed.proofs.postponed.Postponed.push.Goals.{In-Ok-insert, In-Ok-push-2}
use Rattle.nn_postponed.proofs.Steps.{length_queued}
use Rattle.nn_postponed.proofs.Flat.{good_of, set_at, sorted_set, puts_set, Now, added_now, pushed_now, kept_now}
use Rattle.nn_postponed.proofs.Counting.{counted_same, counted_more, joined_queue}

-- ---- Memory was refused.

pub invariant_of-self : goal.invariant_of-self
invariant_of-self c = (
  c.self.invariant.0,
  c.self.invariant.1,
  c.self.invariant.2,
  c.self.invariant.3,
  counted_same c.self.inside.counts c.reserve.new.self (flat c.self.inside.queues) (flat c.self.inside.queues) c.self.invariant.4 c.reserve.ensures.same refl,
)

pub invariant_of-self-in_default-push : goal.invariant_of-self-in_default-push
invariant_of-self-in_default-push c = (
  c.self.invariant.0,
  c.self.invariant.1,
  c.self.invariant.2,
  c.self.invariant.3,
  counted_same c.self.inside.counts c.reserve.new.self (flat c.self.inside.queues) (flat c.self.inside.queues) c.self.invariant.4 c.reserve.ensures.same refl,
)

pub invariant_of-self-in_default-insert : goal.invariant_of-self-in_default-insert
invariant_of-self-in_default-insert c =
    let es = c.in_default-insert.ensures.err in (
      c.insert.ensures.ordered,
      subst AreOwn (sym es) c.self.invariant.1,
      c.self.invariant.2 ∙ ap (λ l. length (flat l)) (sym es),
      c.self.invariant.3,
      counted_same c.self.inside.counts c.reserve.new.self (flat c.self.inside.queues) (flat c.insert.new.self) c.self.invariant.4 c.reserve.ensures.same (ap flat es),
    )

kept : (c : goal.In_default-push-2) → Now (set_at c.args.message.now.block c.self.inside.queues c.push-2.new.self) (flat c.self.inside.queues)
kept c = kept_now c.self.inside.queues (set_at c.args.message.now.block c.self.inside.queues c.push-2.new.self) c.args.message.now.block c.in-Some.queue.now c.push-2.new.self
    (good_of c.self.inside.queues c.self.invariant.0 c.self.invariant.1) (sorted_set c.args.message.now.block c.self.inside.queues c.push-2.new.self c.self.invariant.0)
    (puts_set c.self.inside.queues c.args.message.now.block c.in-Some.queue.now c.push-2.new.self c.in-Some.ensures.value) c.in-Some.ensures.value c.in_default-push-2.ensures.err

pub invariant_of-self-in_default-push-2 : goal.invariant_of-self-in_default-push-2
invariant_of-self-in_default-push-2 c =
    let now = kept c in (
      (sorted_set c.args.message.now.block c.self.inside.queues c.push-2.new.self c.self.invariant.0),
      now.good.own,
      c.self.invariant.2 ∙ ap length (sym now.is),
      c.self.invariant.3,
      counted_same c.self.inside.counts c.reserve.new.self (flat c.self.inside.queues) (flat (set_at c.args.message.now.block c.self.inside.queues c.push-2.new.self)) c.self.invariant.4
          c.reserve.ensures.same now.is,
    )

pub returns-in_default-push-2-clause-err : goal.returns-in_default-push-2-clause-err
returns-in_default-push-2-clause-err c = (kept c).is ∙ c.self.view_is

-- ---- The first message about the block.

added : (c : goal.In-Ok-insert) → Now c.insert.new.self (queued c.args.message.now (flat c.self.inside.queues))
added c = added_now c.self.inside.queues c.insert.new.self c.args.message.now c.push.new.self (good_of c.self.inside.queues c.self.invariant.0 c.self.invariant.1)
    c.insert.ensures.ordered
    c.in-Ok-insert.ensures.updates
    (sym (ap option_copied_mut c.in_default-get_mut.is) ∙ c.get_mut.ensures.value) c.get-recalled.ensures.limit (c.in-Ok-push.ensures.ok ∙ ap (λ l. l ++ c.args.message.now ∷ []) c.in-Ok-new.ensures)

pub invariant_of-self-in_default-get_mut : goal.invariant_of-self-in_default-get_mut
invariant_of-self-in_default-get_mut c =
    let now = added (goal.at.invariant_of-self-in_default-get_mut c).In-Ok-insert in (
      c.insert.ensures.ordered,
      now.good.own,
      omega (arith, c.self.invariant.2, ap length now.is, length_queued c.args.message.now (flat c.self.inside.queues)),
      omega (arith, c.if-self-ge-LIMIT.false),
      counted_more c.args.message.now.dn c.self.inside.counts c.reserve.new.self c.more.new.self (flat c.self.inside.queues)
          (queued c.args.message.now (flat c.self.inside.queues)) (flat c.insert.new.self) c.self.invariant.4 c.reserve.ensures.same c.more.ensures
          (joined_queue c.args.message.now (flat c.self.inside.queues)) now.is,
    )

pub returns-in_default-get_mut-clause-ok : goal.returns-in_default-get_mut-clause-ok
returns-in_default-get_mut-clause-ok c = (added (goal.at.returns-in_default-get_mut-clause-ok c).In-Ok-insert).is ∙ ap (queued c.args.message.now) c.self.view_is

-- ---- One more message about the block.

pushed : (c : goal.In-Ok-push-2) → Now (set_at c.args.message.now.block c.self.inside.queues c.push-2.new.self) (queued c.args.message.now (flat c.self.inside.queues))
pushed c = pushed_now c.self.inside.queues (set_at c.args.message.now.block c.self.inside.queues c.push-2.new.self) c.args.message.now c.in-Some.queue.now c.push-2.new.self
    (good_of c.self.inside.queues c.self.invariant.0 c.self.invariant.1) (sorted_set c.args.message.now.block c.self.inside.queues c.push-2.new.self c.self.invariant.0)
    (puts_set c.self.inside.queues c.args.message.now.block c.in-Some.queue.now c.push-2.new.self c.in-Some.ensures.value) c.in-Some.ensures.value c.in-Ok-push-2.ensures.ok

pub invariant_of-self-2 : goal.invariant_of-self-2
invariant_of-self-2 c =
    let now = pushed (goal.at.invariant_of-self-2 c).In-Ok-push-2 in (
      (sorted_set c.args.message.now.block c.self.inside.queues c.push-2.new.self c.self.invariant.0),
      now.good.own,
      omega (arith, c.self.invariant.2, ap length now.is, length_queued c.args.message.now (flat c.self.inside.queues)),
      omega (arith, c.if-self-ge-LIMIT.false),
      counted_more c.args.message.now.dn c.self.inside.counts c.reserve.new.self c.more-2.new.self (flat c.self.inside.queues)
          (queued c.args.message.now (flat c.self.inside.queues)) (flat (set_at c.args.message.now.block c.self.inside.queues c.push-2.new.self)) c.self.invariant.4 c.reserve.ensures.same c.more-2.ensures
          (joined_queue c.args.message.now (flat c.self.inside.queues)) now.is,
    )

pub returns-clause-ok : goal.returns-clause-ok
returns-clause-ok c = (pushed (goal.at.returns-clause-ok c).In-Ok-push-2).is ∙ ap (queued c.args.message.now) c.self.view_is
