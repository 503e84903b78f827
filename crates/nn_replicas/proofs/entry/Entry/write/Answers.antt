use Rattle.std.proofs.Common.{is_some, length, sym, ap, ◌∙◌, arith, nat_cmp, refl}
use Rattle.std.specs.FinMap.Entries.{is_sorted}
use Rattle.nn_replicas.specs.Entry.{cell_told}
use Rattle.nn_replicas.specs.Scan.{place, is_here}
use Rattle.nn_replicas.proofs.Scanned.{here_below, place_le}
use Rattle.nn_replicas.proofs.Written.{sorted_here, sorted_new, wrote_here, wrote_new, not_there, is_not_here, cells_put, changed_here, changed_new}
use Rattle.nn_replicas.proofs.entry.Entry.write.Goals as goal

pub unreachable-requires : goal.unreachable-requires
unreachable-requires c =
    let k = c.place_of-place.ensures ∙ ap (place c.args.dn) c.as_slice.ensures in
    let h = sym (c.if-has_cell.ensures ∙ ap (is_here c.args.dn) c.as_slice-2.ensures) in
    omega (arith, k, here_below c.args.dn c.self.inside.cells.items h, c.in_default.ensures.item.3)

pub invariant_of-self : goal.invariant_of-self
invariant_of-self c =
    let k = c.place_of-place.ensures ∙ ap (place c.args.dn) c.as_slice.ensures in
    let h = sym (c.if-has_cell.ensures ∙ ap (is_here c.args.dn) c.as_slice-2.ensures) in
    sorted_here c.args.dn c.place_of-place.result _ c.in-Some.slot.now c.write_slot.new.slot c.self.inside.cells.items c.self.invariant k h c.in-Some.ensures.value c.write_slot.ensures.cell

pub returns-then-has_cell-clause-ok : goal.returns-then-has_cell-clause-ok
returns-then-has_cell-clause-ok c =
    let k = c.place_of-place.ensures ∙ ap (place c.args.dn) c.as_slice.ensures in
    let h = sym (c.if-has_cell.ensures ∙ ap (is_here c.args.dn) c.as_slice-2.ensures) in
    wrote_here c.args.self.now c.self.inside.file c.self.inside.cells.items c.args.dn c.place_of-place.result (is_some c.self.inside.file) c.in-Some.slot.now c.write_slot.new.slot (λ b x. cell_told b c.args.told x)
    c.self.view_is k h c.in-Some.ensures.value refl c.write_slot.ensures.cell

pub returns-then-has_cell-clause-change : goal.returns-then-has_cell-clause-change
returns-then-has_cell-clause-change c =
    let k = c.place_of-place.ensures ∙ ap (place c.args.dn) c.as_slice.ensures in
    let h = sym (c.if-has_cell.ensures ∙ ap (is_here c.args.dn) c.as_slice-2.ensures) in
    changed_here c.args.self.now c.self.inside.file c.self.inside.cells.items c.args.dn c.place_of-place.result c.in-Some.slot.now c.write_slot.new.slot _ c.write_slot.result
    c.self.view_is k h c.in-Some.ensures.value c.write_slot.ensures.cell c.write_slot.ensures.change

pub insert-requires : goal.insert-requires
insert-requires c =
    let k = c.place_of-place.ensures ∙ ap (place c.args.dn) c.as_slice.ensures in
    (omega arith, omega (arith, k, place_le c.args.dn c.self.inside.cells.items))

pub returns-in_err-insert-clause-room : goal.returns-in_err-insert-clause-room
returns-in_err-insert-clause-room c =
    let h = sym (c.if-has_cell.ensures ∙ ap (is_here c.args.dn) c.as_slice-2.ensures) in
    is_not_here (not_there c.args.self.now c.self.inside.file c.self.inside.cells.items c.args.dn c.self.view_is c.self.invariant h)

pub invariant_of-self-2 : goal.invariant_of-self-2
invariant_of-self-2 c =
    let k = c.place_of-place.ensures ∙ ap (place c.args.dn) c.as_slice.ensures in
    let h = sym (c.if-has_cell.ensures ∙ ap (is_here c.args.dn) c.as_slice-2.ensures) in
    let new = c.write.ensures ∙ ap (λ s. (s.0, cell_told c.is_some-named.result c.args.told s.1)) c.new-slot.ensures in
    sorted_new c.args.dn c.place_of-place.result _ c.write.new.self c.self.inside.cells.items _ c.self.invariant k h c.in_ok-insert.ensures.ok new

pub returns-clause-ok : goal.returns-clause-ok
returns-clause-ok c =
    let k = c.place_of-place.ensures ∙ ap (place c.args.dn) c.as_slice.ensures in
    let h = sym (c.if-has_cell.ensures ∙ ap (is_here c.args.dn) c.as_slice-2.ensures) in
    let new = c.write.ensures ∙ ap (λ s. (s.0, cell_told c.is_some-named.result c.args.told s.1)) c.new-slot.ensures in
    wrote_new c.args.self.now c.self.inside.file c.self.inside.cells.items _ c.args.dn c.place_of-place.result c.is_some-named.result c.write.new.self (λ b x. cell_told b c.args.told x)
    c.self.view_is c.self.invariant k h c.in_ok-insert.ensures.ok c.is_some-named.ensures new

pub returns-clause-change : goal.returns-clause-change
returns-clause-change c =
    let k = c.place_of-place.ensures ∙ ap (place c.args.dn) c.as_slice.ensures in
    let h = sym (c.if-has_cell.ensures ∙ ap (is_here c.args.dn) c.as_slice-2.ensures) in
    let new = c.write.ensures ∙ ap (λ s. (s.0, cell_told c.is_some-named.result c.args.told s.1)) c.new-slot.ensures in
    changed_new c.args.self.now c.self.inside.file c.self.inside.cells.items _ c.args.dn c.place_of-place.result c.write.new.self _ c.none.result c.share_of-is.result
    c.self.view_is c.self.invariant k h c.in_ok-insert.ensures.ok new c.none.ensures c.share_of-is.ensures

pub returns-then-has_cell-clause-places : goal.returns-then-has_cell-clause-places
returns-then-has_cell-clause-places c =
    let s = ap (λ e. is_sorted nat_cmp e.cells) (sym c.self.view_is) ∙ c.self.invariant in
    ap (λ e. length e.cells) (returns-then-has_cell-clause-ok c) ∙ cells_put c.args.self.now c.args.dn _ s

pub returns-clause-places : goal.returns-clause-places
returns-clause-places c =
    let s = ap (λ e. is_sorted nat_cmp e.cells) (sym c.self.view_is) ∙ c.self.invariant in
    ap (λ e. length e.cells) (returns-clause-ok c) ∙ cells_put c.args.self.now c.args.dn _ s
