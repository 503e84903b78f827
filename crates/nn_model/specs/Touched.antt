-- What an edit touched: which blocks of a file it changed, closed or open, which left the namespace, and which ids it passed over.
use Rattle.std.specs.Prelude.{ℕ, ◌+◌, ◌-◌, Bool, true, false, ◌&&◌, ◌||◌, nat_le, List, [], ◌∷◌, map, length, drop, filter, find, flat_map, Option, Some}
use Rattle.std.specs.Prelude.{None, nat_lt, ◌==◌, if◌then◌else◌}
use Rattle.nn_types.specs.declared.block.Block.{Block}
use Rattle.nn_types.specs.declared.edit.Edit.{Edit}
use Rattle.nn_types.specs.declared.edit.Edit.TheVariants.{StartSegment, EndSegment, Mkdir, Add, AddBlock, UpdateBlocks, Close, Append, Rename, Delete}
use Rattle.nn_types.specs.declared.edit.Edit.TheVariants.{SetReplication, AllocateBlockId, SetGenstamp}
use Rattle.nn_model.specs.declared.form.BlockRow.{BlockRow}
use Rattle.nn_model.specs.Namespace.{Path, Namespace, file_at, blocks_of, begins_with}
use Rattle.nn_model.specs.Apply.{has_id, new_block}
use Rattle.nn_model.specs.Blocks.{block_row}

pub record Touched : Type 0 where
  pub changed : List BlockRow  -- in file order, each with whether its file is closed after the edit
  pub retired : List ℕ  -- ascending
  pub skipped : Option (ℕ × ℕ)  -- the first id and the last

abbrev pub nothing : Touched
nothing = record { changed = []; retired = []; skipped = None }

abbrev pub ids_of : List Block → List ℕ
ids_of bs = map (λ b. b.id) bs

-- ids in ascending order, with one more in its place
abbrev pub with_id : ℕ → List ℕ → List ℕ
with_id i [] = i ∷ []
with_id i (j ∷ ids) = if nat_lt i j then i ∷ j ∷ ids else j ∷ with_id i ids

-- the same ids in ascending order
abbrev pub ascending : List ℕ → List ℕ
ascending [] = []
ascending (i ∷ ids) = with_id i (ascending ids)

-- the ids of the blocks of all files at p and below it
abbrev pub ids_below : Namespace → Path → List ℕ
ids_below n p = ids_of (flat_map (λ row. blocks_of row.1) (filter (λ row. begins_with p row.0) n.rows))

-- the file at p got this list, and is closed or open now: its blocks, and the one that it left out
abbrev pub listed : Namespace → Path → List Block → Bool → Touched
listed n p bs closed = record { changed = map (λ b. block_row closed b) bs; retired = ids_of (drop (length bs) (file_at n p).blocks); skipped = None }

-- what an edit that applies touched
abbrev pub touched : Namespace → Edit → Touched
touched n (AddBlock p i stamp) = record { changed = block_row false (new_block i stamp) ∷ []; retired = []; skipped = None }
touched n (UpdateBlocks p bs) = listed n p bs false
touched n (Close p bs) = listed n p bs true
touched n (Append p) = record { changed = map (λ b. block_row false b) (file_at n p).blocks; retired = []; skipped = None }
touched n (Delete p) = record { changed = []; retired = ascending (ids_below n p); skipped = None }
touched n (AllocateBlockId i) = record { changed = []; retired = []; skipped = if nat_lt (n.issued.last_block + 1) i then Some (n.issued.last_block + 1, i - 1) else None }
touched n (StartSegment profile) = nothing
touched n EndSegment = nothing
touched n (Mkdir p) = nothing
touched n (Add p r) = nothing
touched n (Rename s d) = nothing
touched n (SetReplication p r) = nothing
touched n (SetGenstamp stamp) = nothing

-- ---- What an edit touched tells the blocks after it from those before, and whether their files are closed.

-- the blocks that an edit changed, and their ids
abbrev pub changed_blocks : Touched → List Block
changed_blocks t = map (λ row. row.block) t.changed

abbrev pub changed_ids : Touched → List ℕ
changed_ids t = ids_of (changed_blocks t)

abbrev pub or_before : {A : Type 0} → Option A → Option A → Option A
or_before (Some now) before = Some now
or_before None before = before

-- the row of this id after an edit that touched this, where that was the row before
abbrev pub row_after : Touched → Option BlockRow → ℕ → Option BlockRow
row_after t before id = if has_id t.retired id then None else or_before (find (λ row. row.block.id == id) t.changed) before

-- the block with this id after an edit that touched this, where that was the block before
abbrev pub block_after : Touched → Option Block → ℕ → Option Block
block_after t before id = if has_id t.retired id then None else or_before (find (λ b. b.id == id) (changed_blocks t)) before

-- the id lies in the range
abbrev pub is_within : Option (ℕ × ℕ) → ℕ → Bool
is_within None id = false
is_within (Some range) id = nat_le range.0 id && nat_le id range.1

-- the edit changed the block with this id, retired it or passed it over
abbrev pub is_touched : Touched → ℕ → Bool
is_touched t id = has_id (changed_ids t) id || has_id t.retired id || is_within t.skipped id
