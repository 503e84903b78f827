use Rattle.std.proofs.Common.{ℕ, ◌<◌, List, inl, inr, ◌∙◌, sym, ap, subst, refl, arith, length, ◌∷◌}
use Rattle.std.proofs.lemmas.Bool.{both_ways, cases_Bool}
use Rattle.nn_types.specs.declared.report.Message.{Message}
use Rattle.nn_postponed.specs.Flat.{flat}
use Rattle.nn_postponed.specs.Counts.{count_of}
use Rattle.nn_postponed.proofs.postponed.Postponed.take_first.Goals as goal
use Rattle.nn_postponed.proofs.postponed.Postponed.take_first.Goals.{After-is_empty-is_empty, After-one_went}
use Rattle.nn_postponed.proofs.Flat.{good_of, set_at, sorted_set, puts_set, first_of, queue_read, LeftTaken, first_left, first_gone, never_empty}
use Rattle.nn_postponed.proofs.Counting.{counted_fewer, some_there, joined_first, joined_as}

pub unreachable-requires-in_default-take_first : goal.unreachable-requires-in_default-take_first
unreachable-requires-in_default-take_first c = never_empty c.in-Some.block.now c.self.inside.queues c.in-Some-get_mut.first.now (good_of c.self.inside.queues c.self.invariant.0 c.self.invariant.1) c.in-Some-get_mut.ensures.value c.in_default-take_first.ensures.none.0

message_there : (c : goal.After-is_empty-is_empty) → (0 < c.self.inside.count) × (0 < count_of c.in-Some-take_first.message.dn c.self.inside.counts)
message_there c =
    let es = c.self.inside.queues in
    let m = c.in-Some-take_first.message in
    let found = queue_read es (flat es) (good_of es c.self.invariant.0 c.self.invariant.1) refl c.in-Some.block.now c.in-Some-get_mut.first.now c.in-Some-get_mut.ensures.value in
    some_there m.dn c.in-Some.block.now c.self.inside.count c.in-Some-get_mut.first.now c.take_first.new.self (flat es) c.self.inside.counts found
    (joined_as m.dn c.take_first.new.self (m ∷ c.take_first.new.self) c.take_first.new.self c.in-Some-get_mut.first.now refl c.in-Some-take_first.ensures.some (joined_first m c.take_first.new.self))
    c.self.invariant.2 c.self.invariant.4

pub one_went-requires-clause-count : goal.one_went-requires-clause-count
one_went-requires-clause-count c = (message_there (goal.at.one_went-requires-clause-count c).After-is_empty-is_empty).0

pub one_went-requires-clause-from : goal.one_went-requires-clause-from
one_went-requires-clause-from c = (message_there (goal.at.one_went-requires-clause-from c).After-is_empty-is_empty).1

after : (c : goal.After-one_went) → LeftTaken c.one_went.new.queues c.in-Some-take_first.message (flat c.self.inside.queues)
after c =
    let es = c.self.inside.queues in
    let fs = (set_at c.in-Some.block.now c.self.inside.queues c.take_first.new.self) in
    let m = c.in-Some-take_first.message in
    let good = good_of es c.self.invariant.0 c.self.invariant.1 in
    let put = (puts_set c.self.inside.queues c.in-Some.block.now c.in-Some-get_mut.first.now c.take_first.new.self c.in-Some-get_mut.ensures.value) in
    elim (cases_Bool c.is_empty-is_empty.result) [
      | inl empty ↦
          let gone = c.one_went.ensures.emptied empty in
          record {
            sorted = gone.0;
            taken = first_gone es fs c.one_went.new.queues c.in-Some.block.now c.in-Some.field-0-1.now c.in-Some-get_mut.first.now c.take_first.new.self m good gone.0 (first_of c.self.inside.queues c.iter.result c.next.new.self c.in-Some.block.now c.in-Some.field-0-1.now c.iter.ensures.all c.in-Some.ensures.steps) put
                gone.1 refl gone.2 c.in-Some-get_mut.ensures.value c.in-Some-take_first.ensures.some (c.is_empty-is_empty.ensures.0 empty);
          }
      | inr left ↦ subst (λ (qs : List (ℕ × List Message)). LeftTaken qs m (flat es)) (sym (c.one_went.ensures.kept left)) (record {
        sorted = (sorted_set c.in-Some.block.now c.self.inside.queues c.take_first.new.self c.self.invariant.0);
        taken = first_left es fs c.in-Some.block.now c.in-Some.field-0-1.now c.in-Some-get_mut.first.now c.take_first.new.self m good (sorted_set c.in-Some.block.now c.self.inside.queues c.take_first.new.self c.self.invariant.0)
            (first_of c.self.inside.queues c.iter.result c.next.new.self c.in-Some.block.now c.in-Some.field-0-1.now c.iter.ensures.all c.in-Some.ensures.steps) put refl c.in-Some-get_mut.ensures.value c.in-Some-take_first.ensures.some
            (λ e. both_ways _ left (c.is_empty-is_empty.ensures.1 e));
      })
    ]

pub invariant_of-self : goal.invariant_of-self
invariant_of-self c =
    let left = after (goal.at.invariant_of-self c).After-one_went in
    let m = c.in-Some-take_first.message in
    let fs = c.one_went.new.queues in (
      left.sorted,
      left.taken.now.good.own,
      omega (arith, c.one_went.ensures.count, c.self.invariant.2, ap length left.taken.is),
      omega (arith, c.one_went.ensures.count, c.self.invariant.3),
      counted_fewer m.dn c.self.inside.counts c.one_went.new.counts (flat fs) (flat c.self.inside.queues) c.self.invariant.4 c.one_went.ensures.counts
          (joined_as m.dn (flat fs) (m ∷ flat fs) (flat fs) (flat c.self.inside.queues) refl left.taken.is (joined_first m (flat fs))),
    )

pub returns-clause-some : goal.returns-clause-some
returns-clause-some c = sym c.self.view_is ∙ (after (goal.at.returns-clause-some c).After-one_went).taken.is
