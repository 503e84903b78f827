-- What is said of a DataNode, as room first and then as a cell.
use Rattle.std.proofs.Common.{◌≡◌, ℕ, Bool, true, false, cond, Option, Some, None, is_some, refl, sym, ap, ◌∙◌, nat_cmp}
use Rattle.std.specs.Prelude.{unwrap_or}
use Rattle.std.specs.FinMap.Entries.{find, is_sorted}
use Rattle.nn_types.specs.declared.replica.Replica.{Replica}
use Rattle.nn_replicas.specs.declared.entry.Cell.{Cell}
use Rattle.nn_replicas.specs.declared.entry.Told.TheVariants.{Room}
use Rattle.nn_replicas.specs.Table.{BlockEntry}
use Rattle.nn_replicas.specs.Entry.{no_cell, cell_erased, cell_of, with_cell, with_place, with_erased, with_told, with_word, told_by}
use Rattle.nn_replicas.specs.Calls.{reaches, told_if_due, with_due}
use Rattle.nn_replicas.specs.Entry.{stamp_in}
use Rattle.nn_replicas.proofs.Entries.{put_same}
use Rattle.nn_replicas.proofs.Told.{put_twice, found_put}

cell_is : (e : BlockEntry) (dn : ℕ) (o : Option Cell) → find nat_cmp dn e.cells ≡ o → cell_of e dn ≡ unwrap_or o no_cell
cell_is e dn o h = ap (λ x. unwrap_or x no_cell) h

-- room that is made leaves a cell that stands as it is
pub room_word : (e : BlockEntry) (dn : ℕ) → is_sorted nat_cmp e.cells ≡ true → with_word e dn Room ≡ with_place e dn
room_word e dn s = cases (find nat_cmp dn e.cells) refl
  where
    cases : (o : Option Cell) → find nat_cmp dn e.cells ≡ o → with_cell e dn (cell_of e dn) ≡ cond (is_some (find nat_cmp dn e.cells)) e (with_cell e dn no_cell)
    cases None h = ap (with_cell e dn) (cell_is e dn None h) ∙ sym (ap (λ o. cond (is_some o) e (with_cell e dn no_cell)) h)
    cases (Some c) h =
        ap (with_cell e dn) (cell_is e dn (Some c) h) ∙ ap {B = BlockEntry} (λ xs. record e { cells = xs }) (put_same dn c e.cells h s) ∙ sym (ap (λ o. cond (is_some o) e (with_cell e dn no_cell)) h)

-- what is said makes its own room
pub told_word : (e : BlockEntry) (dn : ℕ) (r : Option Replica) → with_word e dn (told_by r) ≡ with_told e dn r
told_word e dn (Some r) = refl
told_word e dn None = cases (find nat_cmp dn e.cells) refl
  where
    erased : Cell → BlockEntry
    erased c = with_cell e dn (cell_erased (is_some e.row) c)

    cases : (o : Option Cell) → find nat_cmp dn e.cells ≡ o → erased (cell_of e dn) ≡ with_erased (cond (is_some (find nat_cmp dn e.cells)) e (with_cell e dn no_cell)) dn
    cases None h =
        let placed = with_cell e dn no_cell in
        let there : find nat_cmp dn placed.cells ≡ Some no_cell = found_put dn no_cell e.cells in
        let at : with_erased placed dn ≡ with_cell placed dn (cell_erased (is_some e.row) no_cell) = ap (λ o. cond (is_some o) (with_cell placed dn (cell_erased (is_some e.row) (unwrap_or o no_cell))) placed) there in
        ap erased (cell_is e dn None h) ∙ ap {B = BlockEntry} (λ xs. record e { cells = xs }) (sym (put_twice dn no_cell (cell_erased (is_some e.row) no_cell) e.cells)) ∙ sym at
        ∙ sym (ap (λ o. with_erased (cond (is_some o) e placed) dn) h)
    cases (Some c) h =
        let at : with_erased e dn ≡ erased (cell_of e dn) = ap (λ o. cond (is_some o) (erased (cell_of e dn)) e) h in
        sym at ∙ sym (ap (λ o. with_erased (cond (is_some o) e (with_cell e dn no_cell)) dn) h)

due_word : (e : BlockEntry) (dn stamp : ℕ) (r : Option Replica) → reaches (stamp_in e.row) stamp ≡ true → with_word e dn (told_by r) ≡ with_due e dn stamp r
due_word e dn stamp r h = told_word e dn r ∙ sym (ap (λ b. cond b (with_told e dn r) (with_place e dn)) h)

early_word : (e : BlockEntry) (dn stamp : ℕ) (r : Option Replica) → is_sorted nat_cmp e.cells ≡ true → reaches (stamp_in e.row) stamp ≡ false → with_word e dn Room ≡ with_due e dn stamp r
early_word e dn stamp r s h = room_word e dn s ∙ sym (ap (λ b. cond b (with_told e dn r) (with_place e dn)) h)

-- what is said where it is due
pub word_if_due : (e : BlockEntry) (dn stamp : ℕ) (r : Option Replica) → is_sorted nat_cmp e.cells ≡ true → with_word e dn (told_if_due e.row stamp r) ≡ with_due e dn stamp r
word_if_due e dn stamp r s = cases (reaches (stamp_in e.row) stamp) refl
  where
    cases : (b : Bool) → reaches (stamp_in e.row) stamp ≡ b → with_word e dn (cond b (told_by r) Room) ≡ with_due e dn stamp r
    cases true h = due_word e dn stamp r h
    cases false h = early_word e dn stamp r s h
