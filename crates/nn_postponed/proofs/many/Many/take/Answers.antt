use Rattle.std.proofs.Common.{arith, ℕ, List, sym, subst, set, None}
use Rattle.nn_postponed.specs.Links.{Slots, AreLinked}
use Rattle.nn_postponed.proofs.many.Many.take.Goals as goal
use Rattle.nn_postponed.proofs.Links.{head_goes}

pub overflow_sub-self : goal.overflow_sub-self
overflow_sub-self c = omega (arith, head_goes c.self.inside.messages.items c.args.self.now c.args.place c.requires.0 c.in-Some.message c.index.result.now c.self.view_is c.requires.1 c.index.ensures c.in-Some.is, c.self.invariant.1)

pub invariant_of-self : goal.invariant_of-self
invariant_of-self c =
    let b = c.self.inside.block in
    let items = c.self.inside.messages.items in
    let next = c.self.inside.next.items in
    let before = subst (λ (l : Slots). AreLinked b l c.deref-2.result.now c.self.inside.ends c.self.inside.stamps) (sym c.deref.ensures.value)
    (subst (λ (n : List ℕ). AreLinked b items n c.self.inside.ends c.self.inside.stamps) (sym c.deref-2.ensures.value) c.self.invariant.0) in
    let after = c.unlink_first.ensures b before in (
      subst (λ (l : Slots). AreLinked b (set l c.args.place None) next c.unlink_first.new.ends c.unlink_first.new.stamps) c.deref.ensures.value
          (subst (λ (n : List ℕ). AreLinked b (set c.deref.result.now c.args.place None) n c.unlink_first.new.ends c.unlink_first.new.stamps) c.deref-2.ensures.value after),
      omega (arith, head_goes c.self.inside.messages.items c.args.self.now c.args.place c.requires.0 c.in-Some.message c.index.result.now c.self.view_is c.requires.1 c.index.ensures c.in-Some.is, c.self.invariant.1),
    )
