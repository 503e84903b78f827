use Rattle.std.proofs.Common.{◌≡◌, ◌++◌, ◌∷◌, [], length, ap, sym, subst, ◌∙◌}
use Rattle.nn_postponed.specs.Places.{present}
use Rattle.nn_postponed.proofs.few.Few.take_last.Goals as goal
use Rattle.nn_postponed.proofs.Places.{present_append}
use Rattle.nn_postponed.proofs.NoHoles.{last_there, full_front}

pub unreachable-requires : goal.unreachable-requires
unreachable-requires c =
    last_there c.pop.new.self.items
    (subst (λ l. length (present l) ≡ length l) (c.in-Some.ensures.items ∙ ap (λ o. c.pop.new.self.items ++ o ∷ []) c.in_default-slot.is) c.self.invariant)

pub invariant_of-self-2 : goal.invariant_of-self-2
invariant_of-self-2 c = full_front c.pop.new.self.items c.in-Some.slot (subst (λ l. length (present l) ≡ length l) c.in-Some.ensures.items c.self.invariant)

pub returns-clause-some : goal.returns-clause-some
returns-clause-some c =
    sym c.self.view_is ∙ ap present c.in-Some.ensures.items ∙ present_append c.pop.new.self.items (c.in-Some.slot ∷ [])
    ∙ ap (λ o. present c.pop.new.self.items ++ present (o ∷ [])) c.in-Some-slot.is
