use Rattle.std.proofs.Common.{Some, None, sym, ap, ◌∙◌, arith}
use Rattle.std.specs.Option.{option_copied}
use Rattle.nn_replicas.proofs.GivenBack.{leaves, went, given_new, not_given, none_given}
use Rattle.nn_replicas.proofs.Figured.{figures_new, may_replace}
use Rattle.nn_replicas.proofs.table.Replicas.give_back.Goals as goal

pub returns-in_default : goal.returns-in_default
returns-in_default c = none_given c.args.self.now c.self.inside.min c.args.block c.self.inside.entries c.self.view_is (sym (ap option_copied c.in_default.is) ∙ c.get.ensures.value)

pub returns-then-not-is_idle : goal.returns-then-not-is_idle
returns-then-not-is_idle c = not_given c.args.self.now c.self.inside.min c.args.block c.self.inside.entries c.in-Some.entry.now c.self.view_is c.in-Some.ensures.value (sym c.is_idle.ensures ∙ c.if-not-is_idle.true)

pub replace-requires : goal.replace-requires
replace-requires c =
    let l = leaves c.args.self.now c.self.inside.min c.args.block c.self.inside.entries c.remove-room.new.self c.in-Some.entry.now c.self.view_is c.in-Some.ensures.value (sym c.is_idle.ensures ∙ c.if-not-is_idle.false) c.remove-room.ensures.entries in
    may_replace c.self.inside.min c.self.inside.entries c.remove-room.new.self (Some c.in-Some.entry.now) None (went l) c.self.inside.figures c.figures-was.result c.none.result
    c.self.invariant.0 c.figures-was.ensures c.none.ensures
    (let n = c.len-recalled.ensures.len in omega (arith, n, c.len-recalled.ensures.small))
    (let is = ap (λ f. f.places) c.none.ensures in omega (arith, is))

pub invariant_of-self : goal.invariant_of-self
invariant_of-self c =
    let l = leaves c.args.self.now c.self.inside.min c.args.block c.self.inside.entries c.remove-room.new.self c.in-Some.entry.now c.self.view_is c.in-Some.ensures.value (sym c.is_idle.ensures ∙ c.if-not-is_idle.false) c.remove-room.ensures.entries in (
      c.replace.ensures ∙ figures_new c.self.inside.min c.self.inside.entries c.remove-room.new.self (Some c.in-Some.entry.now) None (went l) c.self.inside.figures c.figures-was.result c.none.result
          c.self.invariant.0 c.figures-was.ensures c.none.ensures,
      c.remove-room.ensures.ordered,
    )

pub returns : goal.returns
returns c =
    given_new (leaves c.args.self.now c.self.inside.min c.args.block c.self.inside.entries c.remove-room.new.self c.in-Some.entry.now c.self.view_is c.in-Some.ensures.value (sym c.is_idle.ensures ∙ c.if-not-is_idle.false) c.remove-room.ensures.entries)
