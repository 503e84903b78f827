use Rattle.std.proofs.Common.{arith, ◌∙◌, sym, ap, subst, refl, ℕ, List, ◌∷◌, ◌++◌, [], Some, length, length-append}
use Rattle.nn_postponed.specs.Links.{Slots, AreAbout, AreLinked}
use Rattle.nn_postponed.specs.Places.{present}
use Rattle.nn_postponed.proofs.many.Many.add.Goals as goal
use Rattle.nn_postponed.proofs.Links.{ready, restamped}
use Rattle.nn_postponed.proofs.Places.{present_few, present_pushed}

pub invariant_of-self-in_default-reserve : goal.invariant_of-self-in_default-reserve
invariant_of-self-in_default-reserve c = (
  subst (λ (n : List ℕ). AreLinked c.self.inside.block c.self.inside.messages.items n c.self.inside.ends c.reserve.new.self) (sym c.reserve-2.ensures.items)
      (restamped c.self.inside.block c.self.inside.messages.items c.self.inside.next.items c.self.inside.ends c.self.inside.stamps c.reserve.new.self c.reserve.ensures.same c.reserve.ensures.places c.self.invariant.0),
  c.self.invariant.1,
)

pub invariant_of-self-in_default-reserve-2 : goal.invariant_of-self-in_default-reserve-2
invariant_of-self-in_default-reserve-2 c = (
  subst (λ (l : Slots). AreLinked c.self.inside.block l c.reserve-2.new.self.items c.self.inside.ends c.reserve.new.self) (sym c.reserve-3.ensures.items)
      (subst (λ (n : List ℕ). AreLinked c.self.inside.block c.self.inside.messages.items n c.self.inside.ends c.reserve.new.self) (sym c.reserve-2.ensures.items)
      (restamped c.self.inside.block c.self.inside.messages.items c.self.inside.next.items c.self.inside.ends c.self.inside.stamps c.reserve.new.self c.reserve.ensures.same c.reserve.ensures.places c.self.invariant.0)),
  c.self.invariant.1 ∙ ap (λ l. length (present l)) (sym c.reserve-3.ensures.items),
)

pub link-requires-clause-linked : goal.link-requires-clause-linked
link-requires-clause-linked c = (
  c.args.message.now.block,
  ready c.self.inside.block c.args.message.now.block c.self.inside.messages.items c.deref.result.now c.self.inside.next.items c.reserve-2.new.self.items
      c.self.inside.ends c.self.inside.stamps c.reserve.new.self (c.deref.ensures.value ∙ c.reserve-3.ensures.items) c.reserve-2.ensures.items
      (subst (λ (l : Slots). AreAbout c.args.message.now.block (present l)) (sym c.self.view_is) c.requires.about) c.reserve.ensures.same c.reserve.ensures.places c.self.invariant.0,
)

pub invariant_of-self-in_default-link : goal.invariant_of-self-in_default-link
invariant_of-self-in_default-link c =
    let b = c.args.message.now.block in
    let before = ready c.self.inside.block b c.self.inside.messages.items c.deref.result.now c.self.inside.next.items c.reserve-2.new.self.items
    c.self.inside.ends c.self.inside.stamps c.reserve.new.self (c.deref.ensures.value ∙ c.reserve-3.ensures.items) c.reserve-2.ensures.items
    (subst (λ (l : Slots). AreAbout b (present l)) (sym c.self.view_is) c.requires.about) c.reserve.ensures.same c.reserve.ensures.places c.self.invariant.0 in (
      subst (λ (l : Slots). AreLinked b l c.link.new.next.items c.link.new.ends c.link.new.stamps) c.deref.ensures.value (c.in_default-link.ensures.err b before),
      c.self.invariant.1 ∙ ap (λ l. length (present l)) (sym c.reserve-3.ensures.items),
    )

pub overflow_add-self : goal.overflow_add-self
overflow_add-self c = omega (arith, c.self.invariant.1, present_few c.self.inside.messages.items, c.self.inside.messages.ok, c.self.inside.messages.small)

pub invariant_of-self-2 : goal.invariant_of-self-2
invariant_of-self-2 c =
    let b = c.args.message.now.block in
    let m = c.args.message.now in
    let before = ready c.self.inside.block b c.self.inside.messages.items c.deref.result.now c.self.inside.next.items c.reserve-2.new.self.items
    c.self.inside.ends c.self.inside.stamps c.reserve.new.self (c.deref.ensures.value ∙ c.reserve-3.ensures.items) c.reserve-2.ensures.items
    (subst (λ (l : Slots). AreAbout b (present l)) (sym c.self.view_is) c.requires.about) c.reserve.ensures.same c.reserve.ensures.places c.self.invariant.0 in
    let slots = ap (λ (l : Slots). l ++ Some m ∷ []) c.deref.ensures.value ∙ sym c.push_reserved.ensures.items in
    let more = present_pushed c.self.inside.messages.items c.push_reserved.new.self.items m (c.push_reserved.ensures.items ∙ ap (λ (l : Slots). l ++ Some m ∷ []) c.reserve-3.ensures.items) in (
      subst (λ (l : Slots). AreLinked b l c.link.new.next.items c.link.new.ends c.link.new.stamps) slots (c.in-Ok-link.ensures.ok b refl before),
      omega (arith, c.self.invariant.1, ap length more, length-append (present c.self.inside.messages.items) (m ∷ [])),
    )
