use Rattle.std.proofs.Common.{arith, ◌≡◌, ◌<◌, ◌+◌, ◌∙◌, ℕ, true, sym, ap, get_or, Some, eqb-true}
use Rattle.nn_types.specs.declared.report.Message.{Message}
use Rattle.nn_postponed.specs.Links.{Slots, slot, is_of, IsNext}
use Rattle.nn_postponed.specs.Release.{due_at}
use Rattle.nn_postponed.proofs.many.due_run.Goals as goal
use Rattle.nn_postponed.proofs.Links.{of_place, slot_is}
use Rattle.nn_postponed.proofs.Runs.{run_here, run_end, run_skip}

dn_is : (dn : ℕ) (xs : Slots) (p : ℕ) (m : Message) → slot xs p ≡ Some m → is_of dn (slot xs p) ≡ true → m.dn ≡ dn
dn_is dn xs p m here own = eqb-true m.dn dn (sym (ap (is_of dn) here) ∙ own)

pub returns-then-place-eq0 : goal.returns-then-place-eq0
returns-then-place-eq0 c dn own =
    let xs = c.args.messages.now in
    let p = c.loop-place.place in
    let m = c.in-Some.message in
    let due = due_at c.args.block c.args.status.now in
    let stands = c.loop-place.invariant.own dn own in
    let here = slot_is xs p (Some m) _ (of_place dn xs p stands) (sym c.in-Some.is) in
    let same = dn_is dn xs p m here stands in
    let link = c.requires.linked.3.has_next p m here in
    let run = run_here dn due xs p m here same (sym c.is_due_at.ensures ∙ c.if-not-is_due_at.false) in
    let last = run_end dn due xs p (λ q lt. ap (λ k. is_of k (slot xs q)) (sym same) ∙ link.none c.if-place-eq0.true q lt) in
    let all = c.loop-place.invariant.run dn own in omega (arith, run, last, all)

pub loop-place-smaller : goal.loop-place-smaller
loop-place-smaller c =
    let xs = c.args.messages.now in
    let p = c.loop-place.place in
    let m = c.in-Some.message in
    let stands = c.loop-place.invariant.own c.requires.first.0 c.requires.first.1 in
    let here = slot_is xs p (Some m) _ (of_place c.requires.first.0 xs p stands) (sym c.in-Some.is) in
    let link = c.requires.linked.3.has_next p m here in
    let ne = c.if-place-eq0.false in
    let some : 0 < get_or c.args.next.now p 0 = omega (arith, ne) in
    let later = link.later some in
    let lt = of_place m.dn xs (get_or c.args.next.now p 0) (link.there some) in omega (arith, later, lt)

pub loop-place-preserved : goal.loop-place-preserved
loop-place-preserved c =
    let xs = c.args.messages.now in
    let p = c.loop-place.place in
    let m = c.in-Some.message in
    let n = get_or c.args.next.now p 0 in
    let due = due_at c.args.block c.args.status.now in
    let ne = c.if-place-eq0.false in
    let some : 0 < n = omega (arith, ne) in
    let stands_at : (dn : ℕ) → is_of dn (slot xs c.args.first) ≡ true → is_of dn (slot xs p) ≡ true = c.loop-place.invariant.own in
    let here = slot_is xs p (Some m) _ (of_place c.requires.first.0 xs p (stands_at c.requires.first.0 c.requires.first.1)) (sym c.in-Some.is) in
    let link : IsNext m.dn xs p n = c.requires.linked.3.has_next p m here in
    let later = link.later some in record {
      own = λ dn own. ap (λ k. is_of k (slot xs n)) (sym (dn_is dn xs p m here (stands_at dn own))) ∙ link.there some;
      run = λ dn own.
          let same = dn_is dn xs p m here (stands_at dn own) in
          let run = run_here dn due xs p m here same (sym c.is_due_at.ensures ∙ c.if-not-is_due_at.false) in
          let skip = run_skip dn due xs (p + 1) n (omega (arith, later)) (λ q low high. ap (λ k. is_of k (slot xs q)) (sym same) ∙ link.between q (omega (arith, low)) high) in
          let all = c.loop-place.invariant.run dn own in omega (arith, run, skip, all);
      low = omega (arith, later, c.loop-place.invariant.low);
    }
