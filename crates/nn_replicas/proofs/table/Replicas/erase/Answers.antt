use Rattle.std.proofs.Common.{refl, sym, ap, ◌∙◌, arith}
use Rattle.std.specs.Option.{option_copied_mut}
use Rattle.nn_replicas.specs.declared.entry.Told.TheVariants.{HasNone}
use Rattle.nn_replicas.specs.Entry.{with_erased}
use Rattle.nn_replicas.proofs.Tables.{written, changed_new, not_changed}
use Rattle.nn_replicas.proofs.Figured.{keeps_new, keeps_same, may_tell}
use Rattle.nn_replicas.proofs.Written.{cells_there, erased_there, erased_not}
use Rattle.nn_replicas.proofs.table.Replicas.erase.Goals as goal

pub returns-in_default : goal.returns-in_default
returns-in_default c =
    let none = sym (ap option_copied_mut c.in_default.is) ∙ c.get_mut.ensures.value in
    c.self.view_is ∙ not_changed c.args.self.now c.self.inside.min c.args.block c.self.inside.entries (λ e. with_erased e c.args.dn) c.self.view_is none

pub tell-requires : goal.tell-requires
tell-requires c =
    may_tell c.self.inside.min c.args.block c.self.inside.entries c.in-Some.entry.now c.args.dn HasNone c.in-Some.ensures.value c.self.invariant.1 c.self.inside.figures c.self.invariant.0
    (let n = c.len-recalled.ensures.len in omega (arith, n, c.len-recalled.ensures.small))
    (omega (arith, cells_there c.in-Some.entry.now c.args.dn (sym c.if-has_cell.ensures)))

pub invariant_of-self-in-Ok : goal.invariant_of-self-in-Ok
invariant_of-self-in-Ok c =
    keeps_new c.self.inside.min c.args.block c.self.inside.entries c.in-Some.entry.now c.tell.new.self c.in-Some.ensures.value c.self.invariant.1 c.self.inside.figures c.self.invariant.0 _ _ _ refl refl c.in-Ok.ensures.figures

pub returns-in-Ok : goal.returns-in-Ok
returns-in-Ok c =
    let h = written c.args.block c.self.inside.entries c.in-Some.entry.now c.tell.new.self c.in-Some.ensures.value c.self.invariant.1 in
    changed_new h c.args.self.now c.self.inside.min (λ e. with_erased e c.args.dn) c.self.view_is (c.in-Ok.ensures.ok ∙ erased_there c.in-Some.entry.now c.args.dn (sym c.if-has_cell.ensures))

pub invariant_of-self-else-has_cell : goal.invariant_of-self-else-has_cell
invariant_of-self-else-has_cell c =
    keeps_same c.self.inside.min c.args.block c.self.inside.entries c.in-Some.entry.now c.in-Some.entry.now c.in-Some.ensures.value c.self.invariant.1 c.self.inside.figures c.self.invariant.0 _ refl refl

pub returns-else-has_cell : goal.returns-else-has_cell
returns-else-has_cell c =
    let h = written c.args.block c.self.inside.entries c.in-Some.entry.now c.in-Some.entry.now c.in-Some.ensures.value c.self.invariant.1 in
    changed_new h c.args.self.now c.self.inside.min (λ e. with_erased e c.args.dn) c.self.view_is (erased_not c.in-Some.entry.now c.args.dn (sym c.if-has_cell.ensures))
