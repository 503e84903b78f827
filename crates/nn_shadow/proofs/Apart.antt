-- What is done about other blocks leaves the entry of a block as it was.
use Rattle.std.proofs.Common.{◌≡◌, ℕ, true, false, cond, List, [], ◌∷◌, map, Option, Some, None, is_some, refl, ap, ◌∙◌, inl, inr}
use Rattle.std.specs.Prelude.{◌==◌}
use Rattle.std.proofs.lemmas.Bool.{or_parts, or_cases}
use Rattle.nn_types.specs.declared.report.Message.{Message}
use Rattle.nn_types.specs.declared.report.Kind.{Kind}
use Rattle.nn_types.specs.declared.report.Kind.TheVariants.{Receiving, Received, Deleted, Begin, Listed, Finish}
use Rattle.nn_types.specs.declared.edit.Edit.{Edit}
use Rattle.nn_types.specs.declared.edit.Edit.TheVariants.{StartSegment, EndSegment, Mkdir, Add, AddBlock, UpdateBlocks, Close, Append, Rename, Delete}
use Rattle.nn_types.specs.declared.edit.Edit.TheVariants.{SetReplication, AllocateBlockId, SetGenstamp}
use Rattle.nn_model.specs.declared.form.BlockRow.{BlockRow}
use Rattle.nn_model.specs.Namespace.{Namespace}
use Rattle.nn_model.specs.Apply.{has_id}
use Rattle.nn_model.specs.Touched.{touched, ids_of, changed_ids}
use Rattle.nn_replicas.specs.Table.{BlockEntry, Replicas}
use Rattle.nn_replicas.specs.Entry.{retired, with_place, with_erased}
use Rattle.nn_replicas.specs.Calls.{entry_at, entry_or_none, row_at, with_entry, changed_from, block_set, pair_placed, block_retired}
use Rattle.nn_replicas.specs.Effects.{has_row}
use Rattle.nn_replicas.proofs.Lookups.{find_put, set_block_names}
use Rattle.nn_shadow.specs.Room.{is_waited_for}
use Rattle.nn_shadow.specs.Steps.{taken_as, message_taken, messages_taken, all_placed, room_made_for, rows_set, blocks_retired}
use Rattle.nn_shadow.proofs.Filling.{row_stays}
use Rattle.nn_shadow.proofs.Follows.{eq_swap}

with_apart : (t : Replicas) (id : ℕ) (e : BlockEntry) (b : ℕ) → (b == id) ≡ false → entry_at (with_entry t id e) b ≡ entry_at t b
with_apart t id e b apart = find_put b id e t.entries ∙ ap (λ s. cond s (Some e) (entry_at t b)) apart

changed_apart : (t : Replicas) (id : ℕ) (change : BlockEntry → BlockEntry) (o : Option BlockEntry) (b : ℕ) → (b == id) ≡ false →
    entry_at (changed_from t id change o) b ≡ entry_at t b
changed_apart t id change None b apart = refl
changed_apart t id change (Some e) b apart = with_apart t id (change e) b apart

-- ---- messages

message_apart : (t : Replicas) (m : Message) (b : ℕ) → (b == m.block) ≡ false → entry_at (message_taken t m) b ≡ entry_at t b
message_apart t m b apart = by_kind m.kind
  where
    erased : entry_at (changed_from t m.block (λ e. with_erased e m.dn) (entry_at t m.block)) b ≡ entry_at t b
    erased = changed_apart t m.block (λ e. with_erased e m.dn) (entry_at t m.block) b apart

    by_kind : (k : Kind) → entry_at (taken_as k t m) b ≡ entry_at t b
    by_kind Receiving = with_apart t m.block _ b apart
    by_kind Received = with_apart t m.block _ b apart
    by_kind Deleted = erased
    by_kind Begin = erased
    by_kind Listed = erased
    by_kind Finish = erased

pub messages_apart : (t : Replicas) (ms : List Message) (b : ℕ) → is_waited_for ms b ≡ false → entry_at (messages_taken t ms) b ≡ entry_at t b
messages_apart t [] b none = refl
messages_apart t (m ∷ ms) b none =
    let parts = or_parts (m.block == b) (is_waited_for ms b) none in
    messages_apart (message_taken t m) ms b parts.1 ∙ message_apart t m b (eq_swap b m.block ∙ parts.0)

pub places_apart : (t : Replicas) (ms : List Message) (b : ℕ) → is_waited_for ms b ≡ false → entry_at (all_placed t ms) b ≡ entry_at t b
places_apart t [] b none = refl
places_apart t (m ∷ ms) b none =
    let parts = or_parts (m.block == b) (is_waited_for ms b) none in
    places_apart (pair_placed t m.dn m.block) ms b parts.1
    ∙ with_apart t m.block (with_place (entry_or_none t m.block) m.dn) b (eq_swap b m.block ∙ parts.0)

-- ---- edits

abbrev pub row_ids : List BlockRow → List ℕ
row_ids rows = ids_of (map (λ row. row.block) rows)

pub rows_apart : (t : Replicas) (rows : List BlockRow) (r : ℕ) (b : ℕ) → has_id (row_ids rows) b ≡ false → entry_at (rows_set t rows r) b ≡ entry_at t b
rows_apart t [] r b none = refl
rows_apart t (row ∷ rows) r b none =
    let parts = or_parts (row.block.id == b) (has_id (row_ids rows) b) none in
    rows_apart (block_set t row.block row.closed r) rows r b parts.1 ∙ with_apart t row.block.id _ b (eq_swap b row.block.id ∙ parts.0)

pub retired_apart : (t : Replicas) (ids : List ℕ) (b : ℕ) → has_id ids b ≡ false → entry_at (blocks_retired t ids) b ≡ entry_at t b
retired_apart t [] b none = refl
retired_apart t (id ∷ ids) b none =
    let parts = or_parts (id == b) (has_id ids b) none in
    retired_apart (block_retired t id) ids b parts.1 ∙ changed_apart t id retired (entry_at t id) b (eq_swap b id ∙ parts.0)

pub made_apart : (n : Namespace) (t : Replicas) (edit : Edit) (b : ℕ) → has_id (changed_ids (touched n edit)) b ≡ false → entry_at (room_made_for t edit) b ≡ entry_at t b
made_apart n t (StartSegment profile) b none = refl
made_apart n t EndSegment b none = refl
made_apart n t (Mkdir p) b none = refl
made_apart n t (Add p r) b none = refl
made_apart n t (AddBlock p i stamp) b none = with_apart t i _ b (eq_swap b i ∙ (or_parts (i == b) false none).0)
made_apart n t (UpdateBlocks p bs) b none = refl
made_apart n t (Close p bs) b none = refl
made_apart n t (Append p) b none = refl
made_apart n t (Rename s d) b none = refl
made_apart n t (Delete p) b none = refl
made_apart n t (SetReplication p r) b none = refl
made_apart n t (AllocateBlockId i) b none = refl
made_apart n t (SetGenstamp stamp) b none = refl

-- ---- rows

all_stay : (t : Replicas) (rows : List BlockRow) (r : ℕ) (b : ℕ) → has_row t b ≡ true → has_row (rows_set t rows r) b ≡ true
all_stay t [] r b here = here
all_stay t (row ∷ rows) r b here = all_stay (block_set t row.block row.closed r) rows r b (row_stays t row.block row.closed r b here)

pub rows_there : (t : Replicas) (rows : List BlockRow) (r : ℕ) (b : ℕ) → has_id (row_ids rows) b ≡ true → has_row (rows_set t rows r) b ≡ true
rows_there t (row ∷ rows) r b has = elim (or_cases (row.block.id == b) (has_id (row_ids rows) b) has) [
  | inl own ↦ all_stay (block_set t row.block row.closed r) rows r b
      (ap is_some ((set_block_names t row.block row.closed r).rows b)
      ∙ ap (λ s. is_some (cond s (Some (record { block = row.block; closed = row.closed })) (row_at t b))) (eq_swap b row.block.id ∙ own))
  | inr later ↦ rows_there (block_set t row.block row.closed r) rows r b later
]
rows_there t [] r b none = cc
