-- What a segment is.
use Rattle.std.specs.Prelude.{◌≡◌, ℕ, ◌-◌, ◌≤◌, List, [], ◌∷◌, length, drop, map, Bool, true, false, ◌==◌, ◌&&◌, ◌||◌, if◌then◌else◌, Ok, Option, Some, None, is_some}
use Rattle.std.specs.List.{list_all}
use Rattle.nn_types.specs.declared.edit.Edit.{Edit}
use Rattle.nn_types.specs.declared.edit.Edit.TheVariants.{StartSegment, EndSegment, Mkdir, Add, AddBlock, UpdateBlocks, Close, Append, Rename, Delete}
use Rattle.nn_types.specs.declared.edit.Edit.TheVariants.{SetReplication, AllocateBlockId, SetGenstamp}
use Rattle.nn_types.specs.declared.profile.Profile.{Profile}
use Rattle.nn_types.specs.declared.profile.Profile.TheVariants.{One, Two}
use Rattle.nn_types.specs.declared.tx.Tx.{Tx}
use Rattle.nn_types.specs.Limits.{max_input}
use Rattle.nn_model.specs.Log.{CountsUp}
use Rattle.nn_segment.specs.Name.{IsNameOf}
use Rattle.nn_segment.specs.Lines.{is_ended, reads_of}

-- what callers see of a segment
pub record Segment : Type 0 where
  pub name : List ℕ
  pub bytes : List ℕ
  pub txs : List Tx

-- the bytes that a segment may have
abbrev pub max_bytes : ℕ
max_bytes = max_input

-- the profile of a start mark; no other edit has one
abbrev pub start_profile : Edit → Option Profile
start_profile (StartSegment profile) = Some profile
start_profile _ = None

-- a start mark is what has a profile
abbrev pub is_start : Edit → Bool
is_start edit = is_some (start_profile edit)

-- whether a segment of the profile may have the edit: profile 1 has each operation but append
abbrev pub allows : Profile → Edit → Bool
allows Two edit = true
allows One (StartSegment p) = true
allows One EndSegment = true
allows One (Mkdir p) = true
allows One (Add p r) = true
allows One (AddBlock p id s) = true
allows One (UpdateBlocks p bs) = true
allows One (Close p bs) = true
allows One (Append p) = false
allows One (Rename p q) = true
allows One (Delete p) = true
allows One (SetReplication p r) = true
allows One (AllocateBlockId id) = true
allows One (SetGenstamp s) = true

-- whether it may have all of these
abbrev pub allows_all : Profile → List Tx → Bool
allows_all profile txs = list_all (λ tx. allows profile tx.edit) txs

-- whether there is a profile, and it allows these
abbrev pub allowed_by : Option Profile → List Tx → Bool
allowed_by None txs = false
allowed_by (Some profile) txs = allows_all profile txs

-- whether the first transaction is a start mark, and its profile allows the others
abbrev pub keeps_profile : List Tx → Bool
keeps_profile [] = false
keeps_profile (tx ∷ txs) = allowed_by (start_profile tx.edit) txs

abbrev pub is_end : Edit → Bool
is_end EndSegment = true
is_end _ = false

-- whether the first transaction is a start mark
abbrev pub starts : List Tx → Bool
starts [] = false
starts (tx ∷ txs) = is_start tx.edit

-- whether the first mark among these is an end mark, and the last of them
abbrev pub ends_once : List Tx → Bool
ends_once [] = false
ends_once (tx ∷ txs) = if is_start tx.edit || is_end tx.edit then is_end tx.edit && (length txs == 0) else ends_once txs

abbrev pub first_txid : List Tx → ℕ
first_txid [] = 0
first_txid (tx ∷ txs) = tx.txid

abbrev pub last_txid : List Tx → ℕ
last_txid [] = 0
last_txid (tx ∷ []) = tx.txid
last_txid (tx ∷ next ∷ txs) = last_txid (next ∷ txs)

-- The bytes are whole lines, not too many. Each line is the transaction at its place. The txids count up by one, and
-- the name gives the first and the last. A start mark comes first, an end mark last, and none between. Its profile allows
-- each of its edits: in profile 1 there is no append.
pub record IsSegment (s : Segment) : Type 0 where
  pub short : length s.bytes ≤ max_bytes
  pub ended : is_ended s.bytes ≡ true
  pub lines : reads_of s.bytes ≡ map Ok s.txs
  pub counts_up : CountsUp (first_txid s.txs - 1) s.txs
  pub named : IsNameOf s.name (first_txid s.txs) (last_txid s.txs)
  pub starts : starts s.txs ≡ true
  pub ends : ends_once (drop 1 s.txs) ≡ true
  pub keeps_profile : keeps_profile s.txs ≡ true
