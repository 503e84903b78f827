use Rattle.std.proofs.Common.{ℕ, List, ◌<◌, ◌++◌, ◌∷◌, [], inl, inr, ◌∙◌, sym, ap, subst, refl, arith, length}
use Rattle.std.proofs.lemmas.Bool.{both_ways, cases_Bool}
use Rattle.std.specs.Option.{option_copied_mut}
use Rattle.nn_types.specs.declared.report.Message.{Message}
use Rattle.nn_postponed.specs.Flat.{flat}
use Rattle.nn_postponed.specs.Counts.{count_of}
use Rattle.nn_postponed.specs.Queues.{queued}
use Rattle.nn_postponed.proofs.postponed.Postponed.take_last.Goals as goal
use Rattle.nn_postponed.proofs.postponed.Postponed.take_last.Goals.{After-is_empty-is_empty, After-one_went}
use Rattle.nn_postponed.proofs.Steps.{length_queued}
use Rattle.nn_postponed.proofs.Flat.{good_of, set_at, sorted_set, puts_set, queue_read, ascend_of, in_order, queue_none, never_empty, LeftBack, last_left, last_emptied}
use Rattle.nn_postponed.proofs.Counting.{counted_fewer, some_there, joined_last, joined_queue, joined_as}

pub invariant_of-self : goal.invariant_of-self
invariant_of-self c = c.self.invariant

pub returns-in_default-clause-none : goal.returns-in_default-clause-none
returns-in_default-clause-none c = (
  queue_none c.self.inside.queues c.args.self.now (good_of c.self.inside.queues c.self.invariant.0 c.self.invariant.1) c.self.view_is c.args.block (sym (ap option_copied_mut c.in_default.is) ∙ c.get_mut.ensures.value),
  c.self.view_is,
)

pub returns-in_default-clause-order : goal.returns-in_default-clause-order
returns-in_default-clause-order c = in_order c.self.inside.queues (ascend_of c.self.inside.queues c.self.invariant.0) c.self.invariant.1

pub unreachable-requires : goal.unreachable-requires
unreachable-requires c = never_empty c.args.block c.self.inside.queues c.in-Some.queue.now (good_of c.self.inside.queues c.self.invariant.0 c.self.invariant.1) c.in-Some.ensures.value c.in_default-take_last.ensures.none.0

message_there : (c : goal.After-is_empty-is_empty) → (0 < c.self.inside.count) × (0 < count_of c.in-Some-take_last.message.dn c.self.inside.counts)
message_there c =
    let es = c.self.inside.queues in
    let m = c.in-Some-take_last.message in
    let found = queue_read es (flat es) (good_of es c.self.invariant.0 c.self.invariant.1) refl c.args.block c.in-Some.queue.now c.in-Some.ensures.value in
    some_there m.dn c.args.block c.self.inside.count c.in-Some.queue.now c.take_last.new.self (flat es) c.self.inside.counts found
    (joined_as m.dn c.take_last.new.self (c.take_last.new.self ++ m ∷ []) c.take_last.new.self c.in-Some.queue.now refl c.in-Some-take_last.ensures.some (joined_last m c.take_last.new.self))
    c.self.invariant.2 c.self.invariant.4

pub one_went-requires-clause-count : goal.one_went-requires-clause-count
one_went-requires-clause-count c = (message_there (goal.at.one_went-requires-clause-count c).After-is_empty-is_empty).0

pub one_went-requires-clause-from : goal.one_went-requires-clause-from
one_went-requires-clause-from c = (message_there (goal.at.one_went-requires-clause-from c).After-is_empty-is_empty).1

after : (c : goal.After-one_went) → LeftBack c.one_went.new.queues c.args.block c.in-Some-take_last.message (flat c.self.inside.queues)
after c =
    let es = c.self.inside.queues in
    let fs = (set_at c.args.block c.self.inside.queues c.take_last.new.self) in
    let m = c.in-Some-take_last.message in
    let good = good_of es c.self.invariant.0 c.self.invariant.1 in
    let put = (puts_set c.self.inside.queues c.args.block c.in-Some.queue.now c.take_last.new.self c.in-Some.ensures.value) in
    elim (cases_Bool c.is_empty-is_empty.result) [
      | inl empty ↦
          let gone = c.one_went.ensures.emptied empty in
          last_emptied es fs c.one_went.new.queues c.args.block c.in-Some.queue.now c.take_last.new.self m good gone.0 put gone.1 c.in-Some.ensures.value
          c.in-Some-take_last.ensures.some (c.is_empty-is_empty.ensures.0 empty)
      | inr left ↦ subst (λ (qs : List (ℕ × List Message)). LeftBack qs c.args.block m (flat es)) (sym (c.one_went.ensures.kept left))
          (last_left es fs c.args.block c.in-Some.queue.now c.take_last.new.self m good (sorted_set c.args.block c.self.inside.queues c.take_last.new.self c.self.invariant.0) put c.in-Some.ensures.value
          c.in-Some-take_last.ensures.some (λ e. both_ways _ left (c.is_empty-is_empty.ensures.1 e)))
    ]

pub invariant_of-self-2 : goal.invariant_of-self-2
invariant_of-self-2 c =
    let left = after (goal.at.invariant_of-self-2 c).After-one_went in
    let m = c.in-Some-take_last.message in
    let fs = c.one_went.new.queues in (
      left.sorted,
      left.good.own,
      omega (arith, c.one_went.ensures.count, c.self.invariant.2, ap length left.is, length_queued m (flat fs)),
      omega (arith, c.one_went.ensures.count, c.self.invariant.3),
      counted_fewer m.dn c.self.inside.counts c.one_went.new.counts (flat fs) (flat c.self.inside.queues) c.self.invariant.4 c.one_went.ensures.counts
          (joined_as m.dn (flat fs) (queued m (flat fs)) (flat fs) (flat c.self.inside.queues) refl left.is (joined_queue m (flat fs))),
    )

pub returns-clause-some : goal.returns-clause-some
returns-clause-some c = let left = after (goal.at.returns-clause-some c).After-one_went in (left.at, sym c.self.view_is ∙ left.is)

pub returns-clause-order : goal.returns-clause-order
returns-clause-order c = let left = after (goal.at.returns-clause-order c).After-one_went in in_order c.one_went.new.queues left.good.sorted left.good.own
