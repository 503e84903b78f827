use Rattle.std.proofs.Common.{refl, sym, ap, ◌∙◌, arith, length}
use Rattle.std.specs.Option.{option_copied_mut}
use Rattle.nn_replicas.specs.Entry.{entry_with_row}
use Rattle.nn_replicas.specs.Calls.{with_entry}
use Rattle.nn_replicas.proofs.Tables.{written, table, with_new, no_entry_there, none_there, add_new}
use Rattle.nn_replicas.proofs.Figured.{may_set, keeps_new, keeps_same}
use Rattle.nn_replicas.proofs.table.Replicas.set_block.Goals as goal

pub add-requires : goal.add-requires
add-requires c = record {
  none = none_there (table c.self.inside.min c.self.inside.entries) c.self.inside.min c.args.block.id c.self.inside.entries refl (sym (ap option_copied_mut c.in_default.is) ∙ c.get_mut.ensures.value);
  cells = (let new = ap (λ e. length e.cells) (c.set_row.ensures ∙ ap (λ e. entry_with_row e (record { block = c.args.block; closed = c.args.closed }) c.args.replication) c.new-entry.ensures) in omega (arith, new));
}

pub returns-in_err-add-clause-room : goal.returns-in_err-add-clause-room
returns-in_err-add-clause-room c =
    let none = sym (ap option_copied_mut c.in_default.is) ∙ c.get_mut.ensures.value in
    no_entry_there c.args.self.now c.self.inside.min c.args.block.id c.self.inside.entries c.self.view_is none

pub returns-in_default-clause-ok : goal.returns-in_default-clause-ok
returns-in_default-clause-ok c =
    let none = none_there c.args.self.now c.self.inside.min c.args.block.id c.self.inside.entries c.self.view_is (sym (ap option_copied_mut c.in_default.is) ∙ c.get_mut.ensures.value) in
    c.in_ok-add.ensures.ok ∙ ap (λ t. with_entry t c.args.block.id c.set_row.new.self) c.self.view_is ∙ add_new c.args.self.now c.args.block.id (λ e. entry_with_row e (record { block = c.args.block; closed = c.args.closed }) c.args.replication) c.set_row.new.self none (c.set_row.ensures ∙ ap (λ e. entry_with_row e (record { block = c.args.block; closed = c.args.closed }) c.args.replication) c.new-entry.ensures)

pub replace-requires : goal.replace-requires
replace-requires c =
    let h = written c.args.block.id c.self.inside.entries c.in-Some.entry.now c.set_row-2.new.self c.in-Some.ensures.value c.self.invariant.1 in
    may_set h c.self.inside.min c.self.inside.figures c.figures-was.result c.figures-is.result c.self.invariant.0 c.figures-was.ensures c.figures-is.ensures
    (let n = c.len-recalled.ensures.len in omega (arith, n, c.len-recalled.ensures.small))
    (let cells = ap (λ e. length e.cells) c.set_row-2.ensures in (let was = ap (λ f. f.places) c.figures-was.ensures in let is = ap (λ f. f.places) c.figures-is.ensures in omega (arith, was, is, cells)))

pub invariant_of-self-2 : goal.invariant_of-self-2
invariant_of-self-2 c =
    keeps_new c.self.inside.min c.args.block.id c.self.inside.entries c.in-Some.entry.now c.set_row-2.new.self c.in-Some.ensures.value c.self.invariant.1 c.self.inside.figures c.self.invariant.0 _ _ _ c.figures-was.ensures c.figures-is.ensures c.replace.ensures

pub returns-clause-ok : goal.returns-clause-ok
returns-clause-ok c =
    let h = written c.args.block.id c.self.inside.entries c.in-Some.entry.now c.set_row-2.new.self c.in-Some.ensures.value c.self.invariant.1 in
    with_new h c.args.self.now c.self.inside.min (λ e. entry_with_row e (record { block = c.args.block; closed = c.args.closed }) c.args.replication) c.self.view_is c.set_row-2.ensures

pub invariant_of-self-then-is_held_so : goal.invariant_of-self-then-is_held_so
invariant_of-self-then-is_held_so c =
    keeps_same c.self.inside.min c.args.block.id c.self.inside.entries c.in-Some.entry.now c.in-Some.entry.now c.in-Some.ensures.value c.self.invariant.1 c.self.inside.figures c.self.invariant.0 _ refl refl

pub returns-then-is_held_so-clause-ok : goal.returns-then-is_held_so-clause-ok
returns-then-is_held_so-clause-ok c =
    let h = written c.args.block.id c.self.inside.entries c.in-Some.entry.now c.in-Some.entry.now c.in-Some.ensures.value c.self.invariant.1 in
    with_new h c.args.self.now c.self.inside.min (λ e. entry_with_row e (record { block = c.args.block; closed = c.args.closed }) c.args.replication) c.self.view_is (sym (c.is_held_so.ensures.so c.if-is_held_so.true))
