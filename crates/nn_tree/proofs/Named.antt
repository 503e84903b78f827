-- The index gives the block that the definition finds.
use Rattle.std.proofs.Common.{inl, inr, ◌≡◌, ℕ, true, false, cond, List, [], ◌∷◌, Option, Some, None, refl, sym, ap, ◌∙◌}
use Rattle.std.specs.Prelude.{IfSome, ◌==◌, option_map, find}
use Rattle.std.specs.FinMap.Entries.{find as find_entry, is_sorted, below_all}
use Rattle.std.proofs.lemmas.Bool.{and_parts, false_from_ne_true}
use Rattle.nn_types.specs.declared.block.Block.{Block}
use Rattle.nn_types.specs.declared.status.Status.TheVariants.{Named}
use Rattle.nn_model.specs.Namespace.{Namespace, path_cmp, lookup, blocks_of, all_blocks}
use Rattle.nn_model.specs.Status.{block_at, status_of, status_from, status_unheld}
use Rattle.nn_model.specs.WellFormed.{Includes}
use Rattle.nn_model.proofs.Dues.{found_in, none_found, once_same, blocks_in, has_either}
use Rattle.nn_model.proofs.Wells.{not_below}
use Rattle.nn_model.specs.declared.form.Form.{Form}
use Rattle.nn_model.specs.Namespace.{Path}
use Rattle.nn_model.specs.declared.form.BlockRow.{BlockRow}
use Rattle.nn_model.specs.declared.form.Form.TheVariants.{Dir, File}
use Rattle.nn_tree.specs.Blocks.{IsInFile}
use Rattle.nn_tree.specs.View.{InRow, closed_of, IsKept}
use Rattle.nn_model.proofs.Prefixes.{same, same_true, same_self}
use Rattle.nn_tree.proofs.Added.{stands_in}

-- the row of a block
row_of : (rows : List (Path × Form)) (b : Block) → is_sorted path_cmp rows ≡ true → Includes (blocks_in rows) b → (q : Path) × (r : Form) × (find_entry path_cmp q rows ≡ Some r) × Includes (blocks_of r) b
row_of [] b s h = absurd h
row_of (c ∷ rows) b s h =
    let parts = and_parts (below_all path_cmp c.0 rows) (is_sorted path_cmp rows) s in
    elim (has_either (blocks_of c.1) (blocks_in rows) b h) [
      | inl here ↦ (c.0, c.1, ap (λ k. cond k (Some c.1) (find_entry path_cmp c.0 rows)) (same_self c.0), here)
      | inr later ↦
          (let w = row_of rows b parts.1 later in
          let off : same w.0 c.0 ≡ false = false_from_ne_true (same w.0 c.0) (λ e. let n : find_entry path_cmp w.0 rows ≡ None = ap (λ q. find_entry path_cmp q rows) (same_true w.0 c.0 e) ∙ not_below c.0 rows parts.0 in (cc (n, w.2))) in
          (w.0, w.1, ap (λ k. cond k (Some c.1) (find_entry path_cmp w.0 rows)) off ∙ w.2, w.3))
    ]

pub block_known : (n : Namespace) (look : ℕ → Option BlockRow) (id : ℕ) → IsKept n look → option_map (λ row. row.block) (look id) ≡ block_at n id
block_known n look id k =
    elim (look id) as (λ o. look id ≡ o → option_map (λ row. row.block) o ≡ block_at n id) [
      | Some b ↦ λ e.
          let s = k.index.sound id b e in
          let here = stands_in n b s.1 in
          elim (find (λ x. x.id == id) (all_blocks n)) as (λ o. find (λ x. x.id == id) (all_blocks n) ≡ o → Some b.block ≡ o) [
            | Some z ↦ λ f. let w = found_in (all_blocks n) id z f in ap Some (once_same (all_blocks n) b.block z (k.well.blocks.once z.id) here w.0 (s.0 ∙ sym w.1))
            | None ↦ λ f. absurd (none_found (all_blocks n) id b.block f here s.0)
          ] refl
      | None ↦ λ e.
          elim (find (λ x. x.id == id) (all_blocks n)) as (λ o. find (λ x. x.id == id) (all_blocks n) ≡ o → None ≡ o) [
            | Some z ↦ λ f.
                let w = found_in (all_blocks n) id z f in
                let r = row_of n.rows z k.well.blocks.in_order w.0 in
                let row : BlockRow = record { block = z; closed = closed_of r.1 } in
                let there = k.index.complete row (r.0, r.1, r.2, (refl, r.3)) in
                let none : look z.id ≡ None = ap look w.1 ∙ e in
                absurd (cc (there, none))
            | None ↦ λ f. refl
          ] refl
    ] refl

pub status_named : (n : Namespace) (id : ℕ) (b : Block) → block_at n id ≡ Some b → Named b.stamp ≡ status_of n id
status_named n id b e = sym (ap (λ o. status_from o (status_unheld n id)) e)

pub status_other : (n : Namespace) (id : ℕ) → block_at n id ≡ None → status_unheld n id ≡ status_of n id
status_other n id e = sym (ap (λ o. status_from o (status_unheld n id)) e)

-- a row of the index tells of a file
in_row : (n : Namespace) (p : Path) (r : Form) (b : BlockRow) → lookup n p ≡ Some r → InRow b r → IsInFile n b
in_row n p Dir b e h = absurd h.1
in_row n p (File file) b e h = (p, file, e, h.1, h.0)

pub row_in_file : (n : Namespace) (look : ℕ → Option BlockRow) (o : Option BlockRow) (id : ℕ) → IsKept n look → o ≡ look id → IfSome o (IsInFile n)
row_in_file n look None id k e = tt
row_in_file n look (Some b) id k e = let s = k.index.sound id b (sym e) in in_row n s.1.0 s.1.1 b s.1.2 s.1.3
