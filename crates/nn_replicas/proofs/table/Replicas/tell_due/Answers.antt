use Rattle.std.proofs.lemmas.Bool.{both_ways}
use Rattle.std.proofs.Common.{length, refl, sym, ap, ◌∙◌, arith}
use Rattle.std.specs.Option.{option_copied_mut}
use Rattle.nn_replicas.specs.Entry.{with_place, with_word}
use Rattle.nn_replicas.specs.Calls.{with_entry, with_due}
use Rattle.nn_replicas.proofs.Tables.{table, written, with_new, same_new, no_place, placed_in, none_there, add_new, on_err_any}
use Rattle.nn_replicas.proofs.Figured.{keeps_new, keeps_same, may_tell}
use Rattle.nn_replicas.proofs.Told.{early_due, told_due, no_stamp, stamp_there}
use Rattle.nn_replicas.proofs.Words.{word_if_due}
use Rattle.nn_replicas.proofs.table.Replicas.tell_due.Goals as goal

pub add-requires : goal.add-requires
add-requires c = record {
  none = none_there (table c.self.inside.min c.self.inside.entries) c.self.inside.min c.args.block c.self.inside.entries refl (sym (ap option_copied_mut c.in_default.is) ∙ c.get_mut.ensures.value);
  cells = (let new = ap (λ e. length e.cells) c.in_ok-entry.ensures in omega (arith, new));
}

pub returns-in_err-add-clause-room : goal.returns-in_err-add-clause-room
returns-in_err-add-clause-room c =
    let none = sym (ap option_copied_mut c.in_default.is) ∙ c.get_mut.ensures.value in
    no_place c.args.self.now c.self.inside.min c.args.dn c.args.block c.self.inside.entries c.self.view_is none

pub returns-in_err-entry-clause-room : goal.returns-in_err-entry-clause-room
returns-in_err-entry-clause-room c =
    let none = sym (ap option_copied_mut c.in_default.is) ∙ c.get_mut.ensures.value in
    no_place c.args.self.now c.self.inside.min c.args.dn c.args.block c.self.inside.entries c.self.view_is none

pub returns-then-not-has_room-clause-room : goal.returns-then-not-has_room-clause-room
returns-then-not-has_room-clause-room c =
    λ has. absurd (both_ways _ c.if-not-has_room.true (c.has_room.ensures.room (placed_in c.args.self.now c.self.inside.min c.args.dn c.args.block c.self.inside.entries c.in-Some.entry.now c.self.view_is c.in-Some.ensures.value has)))

pub returns-in_err-tell-clause-room : goal.returns-in_err-tell-clause-room
returns-in_err-tell-clause-room c =
    λ has. absurd (both_ways _ refl (c.in_err-tell.ensures.room (placed_in c.args.self.now c.self.inside.min c.args.dn c.args.block c.self.inside.entries c.in-Some.entry.now c.self.view_is c.in-Some.ensures.value has)))

pub returns-in_default-clause-ok : goal.returns-in_default-clause-ok
returns-in_default-clause-ok c =
    let none = none_there c.args.self.now c.self.inside.min c.args.block c.self.inside.entries c.self.view_is (sym (ap option_copied_mut c.in_default.is) ∙ c.get_mut.ensures.value) in
    c.in_ok-add.ensures.ok ∙ ap (λ t. with_entry t c.args.block c.in_ok-entry.entry) c.self.view_is ∙ add_new c.args.self.now c.args.block (λ e. with_place e c.args.dn) c.in_ok-entry.entry none c.in_ok-entry.ensures ∙ early_due c.args.self.now c.args.dn c.args.block c.args.stamp c.args.replica none

pub tell-requires : goal.tell-requires
tell-requires c =
    may_tell c.self.inside.min c.args.block c.self.inside.entries c.in-Some.entry.now c.args.dn c.told_due-told.result c.in-Some.ensures.value c.self.invariant.1 c.self.inside.figures c.self.invariant.0
    (let n = c.len-recalled.ensures.len in omega (arith, n, c.len-recalled.ensures.small))
    (c.has_room.ensures.fits c.if-not-has_room.false)

pub invariant_of-self-2 : goal.invariant_of-self-2
invariant_of-self-2 c =
    keeps_new c.self.inside.min c.args.block c.self.inside.entries c.in-Some.entry.now c.tell.new.self c.in-Some.ensures.value c.self.invariant.1 c.self.inside.figures c.self.invariant.0 _ _ _ refl refl c.in_ok-tell.ensures.figures

pub returns-clause-ok : goal.returns-clause-ok
returns-clause-ok c =
    let h = written c.args.block c.self.inside.entries c.in-Some.entry.now c.tell.new.self c.in-Some.ensures.value c.self.invariant.1 in
    with_new h c.args.self.now c.self.inside.min (λ e. with_due e c.args.dn c.args.stamp c.args.replica) c.self.view_is (c.in_ok-tell.ensures.ok ∙ ap (with_word c.in-Some.entry.now c.args.dn) c.told_due-told.ensures ∙ word_if_due c.in-Some.entry.now c.args.dn c.args.stamp c.args.replica c.in_ok-tell.ensures.order) ∙ told_due c.args.self.now c.args.dn c.args.block c.args.stamp c.args.replica

pub returns-in_default-clause-stamp : goal.returns-in_default-clause-stamp
returns-in_default-clause-stamp c =
    let none = sym (ap option_copied_mut c.in_default.is) ∙ c.get_mut.ensures.value in
    no_stamp c.args.self.now c.self.inside.min c.args.block c.self.inside.entries c.self.view_is none

pub returns-clause-stamp : goal.returns-clause-stamp
returns-clause-stamp c =
    c.stamp-named.ensures ∙ stamp_there c.args.self.now c.self.inside.min c.args.block c.self.inside.entries c.in-Some.entry.now c.self.view_is c.in-Some.ensures.value

pub invariant_of-self-then-not-has_room : goal.invariant_of-self-then-not-has_room
invariant_of-self-then-not-has_room c =
    keeps_same c.self.inside.min c.args.block c.self.inside.entries c.in-Some.entry.now c.in-Some.entry.now c.in-Some.ensures.value c.self.invariant.1 c.self.inside.figures c.self.invariant.0 _ refl refl

pub returns-then-not-has_room-clause-err : goal.returns-then-not-has_room-clause-err
returns-then-not-has_room-clause-err c =
    let h = written c.args.block c.self.inside.entries c.in-Some.entry.now c.in-Some.entry.now c.in-Some.ensures.value c.self.invariant.1 in
    same_new h c.args.self.now c.self.inside.min c.self.view_is refl

pub invariant_of-self-in_err-tell : goal.invariant_of-self-in_err-tell
invariant_of-self-in_err-tell c =
    keeps_same c.self.inside.min c.args.block c.self.inside.entries c.in-Some.entry.now c.tell.new.self c.in-Some.ensures.value c.self.invariant.1 c.self.inside.figures c.self.invariant.0 _ c.in_err-tell.ensures.uncounted c.in_err-tell.ensures.err

pub returns-in_err-tell-clause-err : goal.returns-in_err-tell-clause-err
returns-in_err-tell-clause-err c =
    let h = written c.args.block c.self.inside.entries c.in-Some.entry.now c.tell.new.self c.in-Some.ensures.value c.self.invariant.1 in
    on_err_any c.from_residual-in_err-tell.result (same_new h c.args.self.now c.self.inside.min c.self.view_is c.in_err-tell.ensures.err)
