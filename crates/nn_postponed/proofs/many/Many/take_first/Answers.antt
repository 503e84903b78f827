use Rattle.std.proofs.Common.{◌∙◌, ap, sym, set, None, arith, ◌∷◌, refl}
use Rattle.nn_types.specs.declared.report.Message.{Message}
use Rattle.nn_postponed.specs.Links.{slot}
use Rattle.nn_postponed.specs.Places.{present}
use Rattle.nn_postponed.proofs.many.Many.take_first.Goals as goal
use Rattle.nn_postponed.proofs.Links.{one_message}
use Rattle.nn_postponed.proofs.Gives.{First, first_one, no_one}

first : (c : goal.After-take) → First c.self.inside.block 18446744073709551614 c.self.inside.messages.items c.self.inside.next.items c.self.inside.ends c.self.inside.stamps c.self.invariant.0 (omega arith) c.in-Some.place
first c = first_one c.self.inside.block 18446744073709551614 c.self.inside.messages.items c.self.inside.next.items c.self.inside.ends c.self.inside.stamps c.self.invariant.0 (omega arith) c.in-Some.place c.in-Some.ensures.some

pub returns-in_default-clause-none : goal.returns-in_default-clause-none
returns-in_default-clause-none c = (
  ap present (sym c.self.view_is)
      ∙ no_one c.self.inside.block 18446744073709551614 c.self.inside.messages.items c.self.inside.next.items c.self.inside.ends c.self.inside.stamps c.self.invariant.0 (omega arith) c.in_default.ensures.none,
  refl,
)

pub returns-clause-some : goal.returns-clause-some
returns-clause-some c =
    let r = first c in
    let p = c.in-Some.place in
    let is = one_message (slot c.args.self.now p) r.m c.take.result (ap (λ l. slot l p) (sym c.self.view_is) ∙ r.head.there) c.take.ensures.there in
    ap present (sym c.self.view_is) ∙ r.is ∙ ap (λ (z : Message). z ∷ present (set c.self.inside.messages.items p None)) is
    ∙ ap (λ l. c.take.result ∷ present (set l p None)) c.self.view_is ∙ ap (λ l. c.take.result ∷ present l) (sym c.take.ensures.rest)
