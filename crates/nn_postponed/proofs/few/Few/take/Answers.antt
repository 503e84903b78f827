use Rattle.std.proofs.Common.{◌≡◌, ◌+◌, ◌++◌, length, take, drop, get_or, ap, sym, subst, ◌∙◌, arith}
use Rattle.nn_postponed.specs.Places.{present}
use Rattle.nn_postponed.proofs.few.Few.take.Goals as goal
use Rattle.nn_postponed.proofs.NoHoles.{some_there, same_at, left_at, full_left}

pub unreachable-requires : goal.unreachable-requires
unreachable-requires c =
    some_there c.self.inside.messages.items c.args.place c.remove.result c.self.invariant (omega (arith, c.requires, ap length c.self.view_is, c.self.invariant)) (sym c.remove.ensures.value ∙ c.in_default.is)

pub invariant_of-self : goal.invariant_of-self
invariant_of-self c =
    subst (λ l. length (present l) ≡ length l) (sym c.remove.ensures.items)
    (full_left c.self.inside.messages.items c.args.place c.self.invariant (omega (arith, c.requires, ap length c.self.view_is, c.self.invariant)))

pub returns-clause-value : goal.returns-clause-value
returns-clause-value c =
    sym (same_at c.self.inside.messages.items c.args.place c.remove.result c.in-Some.message c.in-Some.message c.self.invariant
    (omega (arith, c.requires, ap length c.self.view_is, c.self.invariant)) (sym c.remove.ensures.value ∙ c.in-Some.is))
    ∙ ap (λ l. get_or l c.args.place c.in-Some.message) c.self.view_is

pub returns-clause-rest : goal.returns-clause-rest
returns-clause-rest c =
    ap present c.remove.ensures.items ∙ left_at c.self.inside.messages.items c.args.place c.self.invariant
    ∙ ap (λ l. take c.args.place l ++ drop (c.args.place + 1) l) c.self.view_is
