use Rattle.std.proofs.Common.{arith, ◌≡◌, ◌+◌, ℕ, true, sym, ap, subst, drop, []}
use Rattle.nn_postponed.specs.Links.{Slots, slot, is_of}
use Rattle.nn_postponed.specs.Places.{present}
use Rattle.nn_postponed.specs.Scans.{due_run}
use Rattle.nn_postponed.specs.Release.{due_at}
use Rattle.nn_postponed.proofs.many.Many.due_count.Goals as goal
use Rattle.nn_postponed.proofs.many.Many.due_count.Goals.{After-due_run-count}
use Rattle.nn_postponed.proofs.Flat.{split_length}
use Rattle.nn_postponed.proofs.Places.{present_few}
use Rattle.nn_postponed.proofs.Runs.{AllEnds, all_runs, ends_listed, runs_count, one_run}

pub loop-ends-init : goal.loop-ends-init
loop-ends-init c =
    let due = due_at c.args.block c.args.status in
    let xs = c.self.inside.messages.items in record {
      fit = subst (AllEnds xs) (sym c.iter-left.ensures.all) (ends_listed c.self.inside.block xs c.self.inside.next.items c.self.inside.ends c.self.inside.stamps c.self.invariant.0 c.iter-left.ensures.ordered);
      runs =
          let count = runs_count c.self.inside.block xs c.self.inside.next.items c.self.inside.ends c.self.inside.stamps due c.self.invariant.0 c.iter-left.ensures.ordered in
          let all = ap (all_runs due (present xs)) c.iter-left.ensures.all in omega (arith, count, all);
    }

one : (c : goal.After-due_run-count) →
    (c.due_run-count.result + all_runs (due_at c.args.block c.args.status) (present c.self.inside.messages.items) c.next.new.self ≡ all_runs (due_at c.args.block c.args.status) (present c.self.inside.messages.items) c.loop-ends.left)
    × AllEnds c.self.inside.messages.items c.next.new.self
one c =
    let due = due_at c.args.block c.args.status in
    let xs = c.self.inside.messages.items in
    let e = c.in-Some.ends.now in
    one_run due xs c.loop-ends.left c.next.new.self c.in-Some.field-0-0.now e c.due_run-count.result c.in-Some.ensures.steps c.loop-ends.invariant.fit
    (subst (λ (l : Slots). (dn : ℕ) → is_of dn (slot l e.first) ≡ true → c.due_run-count.result ≡ due_run dn due (present (drop e.first l))) c.deref.ensures.value c.due_run-count.ensures)

pub overflow_add-count : goal.overflow_add-count
overflow_add-count c = (let step = (one c).0 in omega (
  arith,
  step,
  c.loop-ends.invariant.runs,
  split_length (due_at c.args.block c.args.status) [] (present c.self.inside.messages.items),
  present_few c.self.inside.messages.items,
  c.self.inside.messages.ok,
  c.self.inside.messages.small,
))

pub loop-ends-preserved : goal.loop-ends-preserved
loop-ends-preserved c = (let step = one c in record { fit = step.1; runs = (let here = step.0 in omega (arith, here, c.loop-ends.invariant.runs)) })
