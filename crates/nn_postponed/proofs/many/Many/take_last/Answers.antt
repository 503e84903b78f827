use Rattle.std.proofs.Common.{arith, ◌≡◌, ◌∙◌, sym, ap, subst, refl, length, take, ◌++◌, ◌∷◌, [], length-append}
use Rattle.nn_types.specs.declared.report.Message.{Message}
use Rattle.nn_postponed.specs.Links.{Slots, slot, IsLast, AreLinked}
use Rattle.nn_postponed.specs.Places.{present}
use Rattle.nn_postponed.proofs.many.Many.take_last.Goals as goal
use Rattle.nn_postponed.proofs.many.Many.take_last.Goals.{After-truncate}
use Rattle.nn_postponed.proofs.Links.{in_places, slot_is, one_message}
use Rattle.nn_postponed.proofs.Gives.{last_one, no_messages}

last : (c : goal.After-truncate) → present c.self.inside.messages.items ≡ present (take c.in-Some.place c.self.inside.messages.items) ++ c.in-Some-index.message ∷ []
last c =
    let items = c.self.inside.messages.items in
    let p = c.in-Some.place in
    let found : IsLast items p c.in-Some.ensures.some.0 = subst (λ (l : Slots). IsLast l p c.in-Some.ensures.some.0) c.deref.ensures.value c.in-Some.ensures.some.1 in
    let here = slot_is items p c.index.result.now c.index.result.now (in_places items p c.in-Some.ensures.some.0 found.there) c.index.ensures ∙ c.in-Some-index.is in
    let same = one_message (slot items p) c.in-Some.ensures.some.0 c.in-Some-index.message found.there here in
    last_one items p c.in-Some.ensures.some.0 found ∙ ap (λ (z : Message). present (take p items) ++ z ∷ []) same

pub returns-in_default-clause-none : goal.returns-in_default-clause-none
returns-in_default-clause-none c = (ap present (sym c.self.view_is) ∙ ap present (sym c.deref.ensures.value) ∙ no_messages c.deref.result.now c.in_default.ensures.none, refl)

pub overflow_sub-self : goal.overflow_sub-self
overflow_sub-self c =
    let one = ap length (last c) in
    let l = length-append (present (take c.in-Some.place c.self.inside.messages.items)) (c.in-Some-index.message ∷ []) in omega (arith, one, l, c.self.invariant.1)

pub invariant_of-self : goal.invariant_of-self
invariant_of-self c =
    let b = c.self.inside.block in
    let items = c.self.inside.messages.items in
    let p = c.in-Some.place in
    let one = ap length (last (goal.at.invariant_of-self c).After-truncate) in
    let l = length-append (present (take p items)) (c.in-Some-index.message ∷ []) in
    let before = subst (λ (s : Slots). AreLinked b s c.self.inside.next.items c.self.inside.ends c.self.inside.stamps) (sym c.deref-2.ensures.value) c.self.invariant.0 in (
      subst (λ (s : Slots). AreLinked b s c.unlink_last.new.next.items c.unlink_last.new.ends c.unlink_last.new.stamps) (ap (take p) c.deref-2.ensures.value ∙ sym c.truncate.ensures.items) (c.unlink_last.ensures b before),
      omega (arith, one, l, c.self.invariant.1, ap (λ (s : Slots). length (present s)) c.truncate.ensures.items),
    )

pub returns-clause-some : goal.returns-clause-some
returns-clause-some c = ap present (sym c.self.view_is) ∙ last (goal.at.returns-clause-some c).After-truncate ∙ ap (λ (s : Slots). present s ++ c.in-Some-index.message ∷ []) (sym c.truncate.ensures.items)
