-- Worked logs, computed: the namespace after each, and what is said of their blocks.
use Rattle.std.specs.Prelude.{◌≡◌, ℕ, Bool, true, false, List, [], ◌∷◌, map, take, Some, None, Ok, Err, codes, refl}
use Rattle.nn_types.specs.declared.block.Block.{Block}
use Rattle.nn_types.specs.declared.status.Status.{Status}
use Rattle.nn_types.specs.declared.status.Status.TheVariants.{Unnamed, Awaiting, Named, Retired}
use Rattle.nn_types.specs.declared.profile.Profile.TheVariants.{One, Two}
use Rattle.nn_types.specs.declared.edit.Edit.{Edit}
use Rattle.nn_types.specs.declared.edit.Edit.TheVariants.{StartSegment, EndSegment, Mkdir, Add, AddBlock, UpdateBlocks, Close, Append, Rename, Delete}
use Rattle.nn_types.specs.declared.edit.Edit.TheVariants.{AllocateBlockId, SetGenstamp}
use Rattle.nn_types.specs.declared.tx.Tx.{Tx}
use Rattle.nn_model.specs.declared.form.Form.{Form}
use Rattle.nn_model.specs.declared.form.Form.TheVariants.{Dir, File}
use Rattle.nn_types.specs.declared.edit_fault.EditFault.TheVariants.{Missing, IntoItself, Exists, LowerProfile}
use Rattle.nn_model.specs.Namespace.{Path, Namespace, root_alone}
use Rattle.nn_model.specs.Apply.{refusal, applied}
use Rattle.nn_model.specs.Status.{status_of, due_in}
use Rattle.nn_model.specs.Blocks.{block_row}
use Rattle.nn_model.specs.Touched.{touched}
use Rattle.nn_model.specs.Log.{namespace_after, IsLog, run}
use Rattle.nn_model.specs.Laws.{in_profile}

-- ---- Words for the examples.

abbrev pub tx : ℕ → Edit → Tx
tx n edit = record { txid = n; edit = edit }

-- the first two block ids that a log can issue
abbrev pub b : ℕ
b = 1073741825

abbrev pub c : ℕ
c = 1073741826

-- the paths /a, /a/b, /ab and /f
abbrev pub a : Path
a = codes "a" ∷ []

abbrev pub a_b : Path
a_b = codes "a" ∷ codes "b" ∷ []

abbrev pub ab : Path
ab = codes "ab" ∷ []

abbrev pub f : Path
f = codes "f" ∷ []

abbrev pub block : ℕ → ℕ → ℕ → Block
block id stamp len = record { id = id; stamp = stamp; len = len }

abbrev pub file : ℕ → Bool → List Block → Form
file replication closed blocks = File (record { replication = replication; closed = closed; blocks = blocks })

-- the root and these rows, with this last id, this last stamp and these ids awaiting
abbrev pub namespace : List (Path × Form) → ℕ → ℕ → List ℕ → Namespace
namespace rows last_block last_stamp awaiting = record {
  rows = ([], Dir) ∷ rows;
  issued = record { last_block = last_block; last_stamp = last_stamp; awaiting = awaiting; profile = One };
}

-- the statuses of a block after so many transactions of the log
abbrev statuses : List Tx → ℕ → List ℕ → List Status
statuses log id counts = map (λ k. status_of (namespace_after root_alone (take k log)) id) counts

-- ---- A directory below a directory: the delete of the first takes both.

abbrev made : List Tx
made = tx 1 (StartSegment One) ∷ tx 2 (Mkdir a) ∷ tx 3 (Mkdir a_b) ∷ tx 4 (Delete a) ∷ tx 5 EndSegment ∷ []

make_and_delete : (run root_alone made ≡ Ok root_alone)
    × ((namespace_after root_alone (take 3 made)).rows ≡ ([], Dir) ∷ (a, Dir) ∷ (a_b, Dir) ∷ [])
make_and_delete = (refl, refl)

-- ---- A directory whose parent is missing stops the run at its txid.

missing_parent_stops : run root_alone (tx 1 (StartSegment One) ∷ tx 2 (Mkdir a_b) ∷ tx 3 EndSegment ∷ []) ≡ Err (2, Missing)
missing_parent_stops = refl

-- ---- Renames of a directory: not below itself, not to itself, but to a path whose name begins with its own.

abbrev with_a : Namespace
with_a = namespace ((a, Dir) ∷ []) 1073741824 1000 []

rename_rules : (refusal with_a (Rename a (codes "a" ∷ codes "b" ∷ codes "c" ∷ [])) ≡ Some IntoItself)
    × (applied with_a (Rename a ab) ≡ Ok (namespace ((ab, Dir) ∷ []) 1073741824 1000 []))
    × (refusal with_a (Rename a a) ≡ Some Exists)
rename_rules = (refl, refl, refl)

-- ---- A file with one block, from the issue of its stamp and id to its close.

abbrev early_log : List Tx
early_log =
    tx 1 (StartSegment One) ∷ tx 2 (SetGenstamp 1001) ∷ tx 3 (AllocateBlockId b) ∷ tx 4 (Add f 3) ∷ tx 5 (AddBlock f b 1001)
    ∷ tx 6 (Close f (block b 1001 5 ∷ [])) ∷ tx 7 EndSegment ∷ []

abbrev early_end : Namespace
early_end = namespace ((f, file 3 true (block b 1001 5 ∷ [])) ∷ []) b 1001 []

early_report_released : (run root_alone early_log ≡ Ok early_end) × (namespace_after root_alone early_log ≡ early_end)
early_report_released = (refl, refl)

early_report_released_log : IsLog root_alone 0 early_log
early_report_released_log = (refl, refl, (refl, refl, (refl, refl, (refl, refl, (refl, refl, (refl, refl, (refl, refl, tt)))))))

-- the block awaits before it is added: then a report with its stamp is due, and one with a higher stamp isn't
early_report_released_status : statuses early_log b (2 ∷ 4 ∷ 5 ∷ []) ≡ Unnamed ∷ Awaiting ∷ Named 1001 ∷ []
early_report_released_status = refl

early_report_released_due : map (λ k. due_in (namespace_after root_alone (take k early_log)) b 1001) (4 ∷ 5 ∷ 7 ∷ []) ≡ false ∷ true ∷ true ∷ []
early_report_released_due = refl

future_report_flushed_due : map (due_in early_end b) (0 ∷ 1001 ∷ 1002 ∷ []) ≡ true ∷ true ∷ false ∷ []
future_report_flushed_due = refl

-- ---- The delete of a file retires its block.

abbrev deleted_log : List Tx
deleted_log =
    tx 1 (StartSegment One) ∷ tx 2 (SetGenstamp 1001) ∷ tx 3 (AllocateBlockId b) ∷ tx 4 (Add f 3) ∷ tx 5 (AddBlock f b 1001)
    ∷ tx 6 (Close f (block b 1001 5 ∷ [])) ∷ tx 7 (Delete f) ∷ []

deleted_block_is_ordered : (run root_alone deleted_log ≡ Ok (namespace [] b 1001 [])) × (statuses deleted_log b (6 ∷ 7 ∷ []) ≡ Named 1001 ∷ Retired ∷ [])
deleted_block_is_ordered = (refl, refl)

deleted_block_is_ordered_touched : touched early_end (Delete f) ≡ record { changed = []; retired = b ∷ []; skipped = None }
deleted_block_is_ordered_touched = refl

-- ---- An id that an allocation passes over is retired, and the one that it issues awaits.

abbrev skipped_log : List Tx
skipped_log = tx 1 (StartSegment One) ∷ tx 2 (AllocateBlockId c) ∷ tx 3 EndSegment ∷ []

skipped_id_is_retired : (run root_alone skipped_log ≡ Ok (namespace [] c 1000 (c ∷ [])))
    × (statuses skipped_log b (1 ∷ 2 ∷ []) ≡ Unnamed ∷ Retired ∷ []) × (statuses skipped_log c (1 ∷ 2 ∷ []) ≡ Unnamed ∷ Awaiting ∷ [])
skipped_id_is_retired = (refl, refl, refl)

skipped_id_is_retired_touched : touched root_alone (AllocateBlockId c) ≡ record { changed = []; retired = []; skipped = Some (b, b) }
skipped_id_is_retired_touched = refl

skipped_id_is_retired_due : map (λ k. due_in (namespace_after root_alone (take k skipped_log)) b 1001) (1 ∷ 2 ∷ []) ≡ false ∷ true ∷ []
skipped_id_is_retired_due = refl

-- ---- A last block that a new list leaves out leaves the namespace.

abbrev left_out_log : List Tx
left_out_log =
    tx 1 (StartSegment One) ∷ tx 2 (SetGenstamp 1001) ∷ tx 3 (AllocateBlockId b) ∷ tx 4 (Add f 1) ∷ tx 5 (AddBlock f b 1001)
    ∷ tx 6 (SetGenstamp 1002) ∷ tx 7 (AllocateBlockId c) ∷ tx 8 (AddBlock f c 1002)
    ∷ tx 9 (UpdateBlocks f (block b 1001 5 ∷ [])) ∷ tx 10 (Close f (block b 1001 5 ∷ [])) ∷ tx 11 EndSegment ∷ []

left_out_block_is_retired : run root_alone left_out_log ≡ Ok (namespace ((f, file 1 true (block b 1001 5 ∷ [])) ∷ []) c 1002 [])
left_out_block_is_retired = refl

left_out_block_is_retired_status : (statuses left_out_log c (7 ∷ 8 ∷ 9 ∷ []) ≡ Awaiting ∷ Named 1002 ∷ Retired ∷ [])
    × (statuses left_out_log b (7 ∷ 8 ∷ 9 ∷ []) ≡ Named 1001 ∷ Named 1001 ∷ Named 1001 ∷ [])
left_out_block_is_retired_status = (refl, refl)

left_out_block_is_retired_touched : touched (namespace_after root_alone (take 8 left_out_log)) (UpdateBlocks f (block b 1001 5 ∷ []))
    ≡ record { changed = block_row false (block b 1001 5) ∷ []; retired = c ∷ []; skipped = None }
left_out_block_is_retired_touched = refl

-- ---- One list raises the stamps of two blocks, which are in the file in the order in which they were added.

abbrev released_log : List Tx
released_log =
    tx 1 (StartSegment One) ∷ tx 2 (SetGenstamp 1001) ∷ tx 3 (AllocateBlockId b) ∷ tx 4 (AllocateBlockId c) ∷ tx 5 (Add f 1)
    ∷ tx 6 (AddBlock f c 1001) ∷ tx 7 (AddBlock f b 1001) ∷ tx 8 (SetGenstamp 1002)
    ∷ tx 9 (UpdateBlocks f (block c 1002 5 ∷ block b 1002 5 ∷ [])) ∷ tx 10 (Close f (block c 1002 5 ∷ block b 1002 5 ∷ [])) ∷ tx 11 EndSegment ∷ []

released_by_block : run root_alone released_log ≡ Ok (namespace ((f, file 1 true (block c 1002 5 ∷ block b 1002 5 ∷ [])) ∷ []) c 1002 [])
released_by_block = refl

released_by_block_status : (statuses released_log c (4 ∷ 6 ∷ 9 ∷ []) ≡ Awaiting ∷ Named 1001 ∷ Named 1002 ∷ [])
    × (statuses released_log b (6 ∷ 7 ∷ 9 ∷ []) ≡ Awaiting ∷ Named 1001 ∷ Named 1002 ∷ [])
released_by_block_status = (refl, refl)

released_by_block_touched : touched (namespace_after root_alone (take 8 released_log)) (UpdateBlocks f (block c 1002 5 ∷ block b 1002 5 ∷ []))
    ≡ record { changed = block_row false (block c 1002 5) ∷ block_row false (block b 1002 5) ∷ []; retired = []; skipped = None }
released_by_block_touched = refl

-- ---- An append opens a closed file again. Its block keeps its stamp and stays named.

abbrev pub reopened_log : List Tx
reopened_log =
    tx 1 (StartSegment One) ∷ tx 2 (SetGenstamp 1001) ∷ tx 3 (AllocateBlockId b) ∷ tx 4 (Add f 3) ∷ tx 5 (AddBlock f b 1001)
    ∷ tx 6 (Close f (block b 1001 5 ∷ [])) ∷ tx 7 EndSegment ∷ tx 8 (StartSegment Two) ∷ tx 9 (Append f) ∷ tx 10 EndSegment ∷ []

append_reopens : run root_alone reopened_log ≡ Ok (in_profile Two (namespace ((f, file 3 false (block b 1001 5 ∷ [])) ∷ []) b 1001 []))
append_reopens = refl

append_reopens_status : statuses reopened_log b (5 ∷ 6 ∷ 9 ∷ []) ≡ Named 1001 ∷ Named 1001 ∷ Named 1001 ∷ []
append_reopens_status = refl

append_reopens_touched : touched (namespace_after root_alone (take 8 reopened_log)) (Append f)
    ≡ record { changed = block_row false (block b 1001 5) ∷ []; retired = []; skipped = None }
append_reopens_touched = refl

-- ---- The profile of the log never falls.

lower_profile : run root_alone (tx 1 (StartSegment Two) ∷ tx 2 EndSegment ∷ tx 3 (StartSegment One) ∷ tx 4 EndSegment ∷ []) ≡ Err (3, LowerProfile)
lower_profile = refl

higher_profile : run root_alone (tx 1 (StartSegment One) ∷ tx 2 EndSegment ∷ tx 3 (StartSegment Two) ∷ tx 4 EndSegment ∷ []) ≡ Ok (in_profile Two root_alone)
higher_profile = refl
