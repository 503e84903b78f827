use Rattle.std.proofs.Common.{◌≡◌, ◌≢◌, ◌∙◌, ℕ, true, false, not, [], Some, None, sym, ap, subst, set, eqb-true, eq-eqb}
use Rattle.std.specs.Prelude.{◌==◌}
use Rattle.std.proofs.lemmas.Bool.{both_ways, not-false}
use Rattle.nn_types.specs.declared.report.Message.{Message}
use Rattle.nn_postponed.specs.Links.{slot, AreLinked}
use Rattle.nn_postponed.specs.Places.{present}
use Rattle.nn_postponed.specs.Release.{due_at, first_free, without_free}
use Rattle.nn_postponed.proofs.many.Many.release.Goals as goal
use Rattle.nn_postponed.proofs.Steps.{none_left}
use Rattle.nn_postponed.proofs.Links.{one_message}
use Rattle.nn_postponed.proofs.Gives.{Gives, other_block, never_due, due_released, none_due_released}

apart_of : (a b : ℕ) → true ≡ not (a == b) → a ≢ b
apart_of a b is same = both_ways _ (ap not (eq-eqb a b same)) (sym is)

same_of : (a b : ℕ) → false ≡ not (a == b) → a ≡ b
same_of a b is = eqb-true a b (not-false (a == b) (sym is))

-- ---- Of another block, or where none is due.

other : (c : goal.Then-ne) → None ≡ first_free (due_at c.args.block c.args.status) [] (present c.args.self.now)
other c =
    other_block c.self.inside.block c.args.block c.args.status c.self.inside.messages.items c.self.invariant.0.about (apart_of c.self.inside.block c.args.block c.if-ne.ensures)
    ∙ ap (λ l. first_free (due_at c.args.block c.args.status) [] (present l)) c.self.view_is

pub returns-then-ne-clause-first : goal.returns-then-ne-clause-first
returns-then-ne-clause-first c = other c

pub returns-then-ne-clause-rest : goal.returns-then-ne-clause-rest
returns-then-ne-clause-rest c = sym (none_left (due_at c.args.block c.args.status) [] (present c.args.self.now) (sym (other c)))

never : (c : goal.In_default) → None ≡ first_free (due_at c.args.block c.args.status) [] (present c.args.self.now)
never c = never_due c.args.block c.args.status c.args.self.now c.in_default.ensures.none

pub returns-in_default-clause-first : goal.returns-in_default-clause-first
returns-in_default-clause-first c = never c

pub returns-in_default-clause-rest : goal.returns-in_default-clause-rest
returns-in_default-clause-rest c = sym (none_left (due_at c.args.block c.args.status) [] (present c.args.self.now) (sym (never c)))

-- ---- None is due, or the first one of those that are.

too_high : (c : goal.In_default-first_up_to) → None ≡ first_free (due_at c.args.block c.args.status) [] (present c.args.self.now)
too_high c =
    let same = same_of c.self.inside.block c.args.block c.if-ne.ensures in
    let old = subst (λ (k : ℕ). AreLinked k c.self.inside.messages.items c.self.inside.next.items c.self.inside.ends c.self.inside.stamps) same c.self.invariant.0 in
    none_due_released c.args.block c.in-Some.limit c.args.status c.self.inside.messages.items c.self.inside.next.items c.self.inside.ends c.self.inside.stamps old
    c.in-Some.ensures.some.0 c.in-Some.ensures.some.1 c.in_default-first_up_to.ensures.none
    ∙ ap (λ l. first_free (due_at c.args.block c.args.status) [] (present l)) c.self.view_is

pub returns-in_default-first_up_to-clause-first : goal.returns-in_default-first_up_to-clause-first
returns-in_default-first_up_to-clause-first c = too_high c

pub returns-in_default-first_up_to-clause-rest : goal.returns-in_default-first_up_to-clause-rest
returns-in_default-first_up_to-clause-rest c = sym (none_left (due_at c.args.block c.args.status) [] (present c.args.self.now) (sym (too_high c)))

given : (c : goal.After-take) → Gives (due_at c.args.block c.args.status) c.self.inside.messages.items c.in-Some-first_up_to.place
given c =
    let same = same_of c.self.inside.block c.args.block c.if-ne.ensures in
    let old = subst (λ (k : ℕ). AreLinked k c.self.inside.messages.items c.self.inside.next.items c.self.inside.ends c.self.inside.stamps) same c.self.invariant.0 in
    due_released c.args.block c.in-Some.limit c.args.status c.self.inside.messages.items c.self.inside.next.items c.self.inside.ends c.self.inside.stamps old
    c.in-Some.ensures.some.0 c.in-Some.ensures.some.1 c.in-Some-first_up_to.place c.in-Some-first_up_to.ensures.some

pub returns-clause-first : goal.returns-clause-first
returns-clause-first c =
    let r = given c in
    let p = c.in-Some-first_up_to.place in
    let is = one_message (slot c.args.self.now p) c.take.result r.m c.take.ensures.there (ap (λ l. slot l p) (sym c.self.view_is) ∙ r.head.there) in
    ap (λ (z : Message). Some z) is ∙ sym r.first ∙ ap (λ l. first_free (due_at c.args.block c.args.status) [] (present l)) c.self.view_is

pub returns-clause-rest : goal.returns-clause-rest
returns-clause-rest c =
    let r = given c in
    ap present c.take.ensures.rest ∙ ap (λ l. present (set l c.in-Some-first_up_to.place None)) (sym c.self.view_is) ∙ sym r.rest
    ∙ ap (λ l. without_free (due_at c.args.block c.args.status) [] (present l)) c.self.view_is
