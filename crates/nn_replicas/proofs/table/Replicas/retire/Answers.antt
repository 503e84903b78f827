use Rattle.std.proofs.Common.{sym, ap, ◌∙◌, arith}
use Rattle.std.specs.Option.{option_copied_mut}
use Rattle.nn_replicas.specs.Entry.{retired}
use Rattle.nn_replicas.proofs.Tables.{written, changed_new, not_changed}
use Rattle.nn_replicas.proofs.Figured.{may_set, keeps_new}
use Rattle.nn_replicas.proofs.table.Replicas.retire.Goals as goal

pub returns-in_default : goal.returns-in_default
returns-in_default c =
    let none = sym (ap option_copied_mut c.in_default.is) ∙ c.get_mut.ensures.value in
    c.self.view_is ∙ not_changed c.args.self.now c.self.inside.min c.args.block c.self.inside.entries retired c.self.view_is none

pub replace-requires : goal.replace-requires
replace-requires c =
    let h = written c.args.block c.self.inside.entries c.in-Some.entry.now c.retire.new.self c.in-Some.ensures.value c.self.invariant.1 in
    may_set h c.self.inside.min c.self.inside.figures c.figures-was.result c.figures-is.result c.self.invariant.0 c.figures-was.ensures c.figures-is.ensures
    (let n = c.len-recalled.ensures.len in omega (arith, n, c.len-recalled.ensures.small))
    (let was = ap (λ f. f.places) c.figures-was.ensures in let is = ap (λ f. f.places) c.figures-is.ensures in omega (arith, was, is, c.retire.ensures.places))

pub invariant_of-self-2 : goal.invariant_of-self-2
invariant_of-self-2 c =
    keeps_new c.self.inside.min c.args.block c.self.inside.entries c.in-Some.entry.now c.retire.new.self c.in-Some.ensures.value c.self.invariant.1 c.self.inside.figures c.self.invariant.0 _ _ _ c.figures-was.ensures c.figures-is.ensures c.replace.ensures

pub returns : goal.returns
returns c =
    let h = written c.args.block c.self.inside.entries c.in-Some.entry.now c.retire.new.self c.in-Some.ensures.value c.self.invariant.1 in
    changed_new h c.args.self.now c.self.inside.min retired c.self.view_is c.retire.ensures.retired
