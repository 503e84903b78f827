-- The index after the blocks of a file were entered.
use Rattle.std.specs.Prelude.{ℕ, Bool, true, not, ◌&&◌, ◌==◌, List, [], ◌∷◌, map, Option, Some, cond, is_some}
use Rattle.nn_types.specs.declared.block.Block.{Block}
use Rattle.nn_model.specs.Apply.{has_id}
use Rattle.nn_model.specs.declared.form.BlockRow.{BlockRow}

abbrev pub entered : (ℕ → Option BlockRow) → List Block → Bool → ℕ → Option BlockRow
entered look [] closed id = look id
entered look (b ∷ bs) closed id = cond (b.id == id) (Some (record { block = b; closed = closed })) (entered look bs closed id)

-- none of the blocks stands in the index, and none stands twice in the list
abbrev pub are_new : (ℕ → Option BlockRow) → List Block → Bool
are_new look [] = true
are_new look (b ∷ bs) = not (is_some (look b.id)) && not (has_id (map (λ c. c.id) bs) b.id) && are_new look bs
