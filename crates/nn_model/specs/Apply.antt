-- What each edit does, and why it is refused.
use Rattle.std.specs.Prelude.{ℕ, Bool, true, false, not, ◌&&◌, ◌||◌, List, [], ◌∷◌, ◌++◌, map, length, drop, filter, Option, Some, None, Result, Ok}
use Rattle.std.specs.Prelude.{Err, is_some, ◌==◌, nat_le, nat_lt, if◌then◌else◌}
use Rattle.std.specs.List.{list_any}
use Rattle.std.specs.FinMap.Entries.{put}
use Rattle.nn_types.specs.declared.block.Block.{Block}
use Rattle.nn_types.specs.declared.edit.Edit.{Edit}
use Rattle.nn_types.specs.declared.edit.Edit.TheVariants.{StartSegment, EndSegment, Mkdir, Add, AddBlock, UpdateBlocks, Close, Append, Rename, Delete}
use Rattle.nn_types.specs.declared.edit.Edit.TheVariants.{SetReplication, AllocateBlockId, SetGenstamp}
use Rattle.nn_model.specs.declared.form.Form.{Form}
use Rattle.nn_model.specs.declared.form.Form.TheVariants.{Dir, File}
use Rattle.nn_types.specs.declared.edit_fault.EditFault.{EditFault}
use Rattle.nn_types.specs.declared.edit_fault.EditFault.TheVariants.{Exists, Missing, NotDirectory, NotFile, IsRoot, IntoItself, NotOpen, WrongBlocks}
use Rattle.nn_types.specs.declared.edit_fault.EditFault.TheVariants.{BadGeneration, BadBlockId, BadReplication, NotClosed, LowerProfile}
use Rattle.nn_types.specs.Profile.{is_lower}
use Rattle.nn_types.specs.Limits.{max_replication}
use Rattle.nn_model.specs.Namespace.{Path, path_cmp, Namespace, lookup, with_row, begins_with, file_at, file_or_none, no_stamp}

-- ---- Why an edit is refused: the checks of an edit in order, of which the first that finds a fault decides. What is at a path
-- is asked by look-ups.

-- a fault where the test holds
abbrev pub fault_if : {F : Type 0} → Bool → F → Option F
fault_if true fault = Some fault
fault_if false fault = None

-- the first fault that was found
abbrev pub first_fault : {F : Type 0} → List (Option F) → Option F
first_fault [] = None
first_fault (Some fault ∷ checks) = Some fault
first_fault (None ∷ checks) = first_fault checks

-- what is found in a directory, where it is one
abbrev pub in_directory : Option Form → Option EditFault → Option EditFault
in_directory None found = Some Missing
in_directory (Some Dir) found = found
in_directory (Some (File file)) found = Some NotDirectory

-- the first parent of a path, from the root down, that is missing or is a file
abbrev pub walk : (Path → Option Form) → Path → Option EditFault
walk look [] = None
walk look (name ∷ p) = in_directory (look []) (walk (λ q. look (name ∷ q)) p)

abbrev pub is_root : Path → Option EditFault
is_root [] = Some IsRoot
is_root (name ∷ p) = None

abbrev pub exists : Option Form → Option EditFault
exists form = fault_if (is_some form) Exists

abbrev pub missing : Option Form → Option EditFault
missing form = fault_if (not (is_some form)) Missing

abbrev pub is_dir : Option Form → Bool
is_dir (Some Dir) = true
is_dir (Some (File file)) = false
is_dir None = false

abbrev pub not_file : Option Form → Option EditFault
not_file form = fault_if (is_dir form) NotFile

abbrev pub not_open : Option Form → Option EditFault
not_open form = fault_if (file_or_none form).closed NotOpen

abbrev pub not_closed : Option Form → Option EditFault
not_closed form = fault_if (not (file_or_none form).closed) NotClosed

-- a replication is 1 to 512
abbrev pub replication_range : ℕ → Option EditFault
replication_range r = fault_if (nat_lt r 1 || nat_lt max_replication r) BadReplication

-- the new list has the ids of the old one, place by place, all of them or all but the last
abbrev pub keeps_ids : List Block → List Block → Bool
keeps_ids [] [] = true
keeps_ids [] (b ∷ new) = false
keeps_ids (a ∷ []) [] = true
keeps_ids (a ∷ c ∷ old) [] = false
keeps_ids (a ∷ old) (b ∷ new) = (a.id == b.id) && keeps_ids old new

-- place by place, each new generation stamp is at least the old one, and at most the last one issued
abbrev pub keeps_stamps : ℕ → List Block → List Block → Bool
keeps_stamps last old [] = true
keeps_stamps last [] (b ∷ new) = true
keeps_stamps last (a ∷ old) (b ∷ new) = nat_le a.stamp b.stamp && nat_le b.stamp last && keeps_stamps last old new

abbrev pub has_id : List ℕ → ℕ → Bool
has_id ids i = list_any (λ id. id == i) ids

-- the checks of a new list of blocks for a file
abbrev pub list_checks : Namespace → Path → List Block → List (Option EditFault)
list_checks n p bs =
    is_root p ∷ walk (lookup n) p ∷ missing (lookup n p) ∷ not_file (lookup n p) ∷ not_open (lookup n p)
    ∷ fault_if (not (keeps_ids (file_at n p).blocks bs)) WrongBlocks
    ∷ fault_if (not (keeps_stamps n.issued.last_stamp (file_at n p).blocks bs)) BadGeneration
    ∷ []

-- the checks of an edit, in order
abbrev pub checks : Namespace → Edit → List (Option EditFault)
checks n (StartSegment profile) = fault_if (is_lower profile n.issued.profile) LowerProfile ∷ []
checks n EndSegment = []
checks n (Mkdir p) = is_root p ∷ walk (lookup n) p ∷ exists (lookup n p) ∷ []
checks n (Add p r) = is_root p ∷ replication_range r ∷ walk (lookup n) p ∷ exists (lookup n p) ∷ []
checks n (AddBlock p i stamp) =
    is_root p ∷ walk (lookup n) p ∷ missing (lookup n p) ∷ not_file (lookup n p) ∷ not_open (lookup n p)
    ∷ fault_if (not (has_id n.issued.awaiting i)) BadBlockId
    ∷ fault_if (nat_le stamp no_stamp || nat_lt n.issued.last_stamp stamp) BadGeneration
    ∷ []
checks n (UpdateBlocks p bs) = list_checks n p bs
checks n (Close p bs) = list_checks n p bs
checks n (Append p) = is_root p ∷ walk (lookup n) p ∷ missing (lookup n p) ∷ not_file (lookup n p) ∷ not_closed (lookup n p) ∷ []
checks n (Rename s d) =
    is_root s ∷ is_root d ∷ walk (lookup n) s ∷ missing (lookup n s)
    ∷ fault_if (begins_with s d && nat_lt (length s) (length d)) IntoItself
    ∷ walk (lookup n) d ∷ exists (lookup n d) ∷ []
checks n (Delete p) = is_root p ∷ walk (lookup n) p ∷ missing (lookup n p) ∷ []
checks n (SetReplication p r) = is_root p ∷ replication_range r ∷ walk (lookup n) p ∷ missing (lookup n p) ∷ not_file (lookup n p) ∷ []
checks n (AllocateBlockId i) = fault_if (nat_le i n.issued.last_block) BadBlockId ∷ []
checks n (SetGenstamp stamp) = fault_if (nat_le stamp n.issued.last_stamp) BadGeneration ∷ []

-- why the namespace refuses the edit, or None where it applies
abbrev pub refusal : Namespace → Edit → Option EditFault
refusal n edit = first_fault (checks n edit)

-- ---- What an edit does where it applies.

-- the file at p gets these blocks
abbrev pub with_blocks : Namespace → Path → List Block → Bool → Namespace
with_blocks n p bs now_closed = with_row n p (File (record { replication = (file_at n p).replication; closed = now_closed; blocks = bs }))

-- a block as it is added to a file: its length is still to come
abbrev pub new_block : ℕ → ℕ → Block
new_block i stamp = record { id = i; stamp = stamp; len = 0 }

-- a path that begins with s begins with d instead
abbrev pub moved : Path → Path → Path → Path
moved s d p = if begins_with s p then d ++ drop (length s) p else p

-- rows in path order
abbrev pub in_path_order : List (Path × Form) → List (Path × Form)
in_path_order [] = []
in_path_order (row ∷ rows) = put path_cmp row.0 row.1 (in_path_order rows)

-- the namespace after an edit that applies
abbrev pub effect : Namespace → Edit → Namespace
effect n (StartSegment profile) = record n { issued = record n.issued { profile = profile } }
effect n EndSegment = n
effect n (Mkdir p) = with_row n p Dir
effect n (Add p r) = with_row n p (File (record { replication = r; closed = false; blocks = [] }))
effect n (AddBlock p i stamp) =
    record (with_blocks n p ((file_at n p).blocks ++ new_block i stamp ∷ []) false) {
      issued = record n.issued { awaiting = filter (λ id. not (id == i)) n.issued.awaiting };
    }
effect n (UpdateBlocks p bs) = with_blocks n p bs false
effect n (Close p bs) = with_blocks n p bs true
effect n (Append p) = with_blocks n p (file_at n p).blocks false
effect n (Rename s d) = record n { rows = in_path_order (map (λ row. (moved s d row.0, row.1)) n.rows) }
effect n (Delete p) = record n { rows = filter (λ row. not (begins_with p row.0)) n.rows }
effect n (SetReplication p r) = with_row n p (File (record (file_at n p) { replication = r }))
effect n (AllocateBlockId i) = record n { issued = record n.issued { last_block = i; awaiting = n.issued.awaiting ++ i ∷ [] } }
effect n (SetGenstamp stamp) = record n { issued = record n.issued { last_stamp = stamp } }

-- the new namespace, or the first fault
abbrev pub outcome : Option EditFault → Namespace → Result Namespace EditFault
outcome None n = Ok n
outcome (Some fault) n = Err fault

-- an edit: the namespace after it, or the first fault that its checks find
abbrev pub applied : Namespace → Edit → Result Namespace EditFault
applied n edit = outcome (refusal n edit) (effect n edit)
