-- What a namespace is built of, path by path: the root alone with what was issued, and which path may be restored.
use Rattle.std.specs.Prelude.{ℕ, ◌+◌, Bool, true, not, ◌&&◌, List, [], ◌∷◌, ◌++◌, map, is_some, nat_le, nat_lt}
use Rattle.std.specs.List.{list_all}
use Rattle.nn_types.specs.declared.block.Block.{Block}
use Rattle.nn_types.specs.Limits.{max_replication}
use Rattle.nn_model.specs.declared.form.Form.{Form}
use Rattle.nn_model.specs.declared.form.Form.TheVariants.{Dir, File}
use Rattle.nn_model.specs.Namespace.{Path, Issued, Namespace, lookup, all_blocks, no_block, no_stamp}
use Rattle.nn_model.specs.Apply.{has_id, is_dir}

-- the path of the directory that holds this one. The root has none
abbrev pub parent_of : Path → Path
parent_of [] = []
parent_of (name ∷ []) = []
parent_of (name ∷ next ∷ p) = name ∷ parent_of (next ∷ p)

-- the root alone, where this was issued
abbrev pub bare : Issued → Namespace
bare issued = record { rows = ([], Dir) ∷ []; issued = issued }

-- ---- Which ids may await.

-- each id is greater than the one before
abbrev pub rises : List ℕ → Bool
rises [] = true
rises (i ∷ []) = true
rises (i ∷ j ∷ ids) = nat_lt i j && rises (j ∷ ids)

-- the log has issued the id, where this is the last one
abbrev pub is_issued : ℕ → ℕ → Bool
is_issued last_block i = nat_le (no_block + 1) i && nat_le i last_block

abbrev pub awaiting_fits : ℕ → List ℕ → Bool
awaiting_fits last_block ids = list_all (is_issued last_block) ids && rises ids

-- ---- Which path may be restored.

abbrev pub replication_fits : ℕ → Bool
replication_fits r = nat_le 1 r && nat_le r max_replication

-- a block's id was issued and awaits no more, and its generation stamp was issued
abbrev pub block_fits : Issued → Block → Bool
block_fits issued b =
    is_issued issued.last_block b.id && not (has_id issued.awaiting b.id) && nat_le (no_stamp + 1) b.stamp && nat_le b.stamp issued.last_stamp

-- no block id stands twice
abbrev pub once : List Block → Bool
once [] = true
once (b ∷ bs) = not (has_id (map (λ c. c.id) bs) b.id) && once bs

-- the replication and the blocks of a file that is to stand in the namespace
abbrev pub form_fits : Namespace → Form → Bool
form_fits n Dir = true
form_fits n (File file) = replication_fits file.replication && list_all (block_fits n.issued) file.blocks && once (all_blocks n ++ file.blocks)

-- what may stand at a path where nothing stands yet: its parent is a directory
abbrev pub row_fits : Namespace → Path → Form → Bool
row_fits n p form = is_dir (lookup n (parent_of p)) && form_fits n form

abbrev pub can_restore : Namespace → Path → Form → Bool
can_restore n p form = not (is_some (lookup n p)) && row_fits n p form
