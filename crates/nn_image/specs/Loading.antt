-- What the calls that read an image say of its lines, and of the bytes to come, where those are known.
use Rattle.std.specs.Prelude.{◌≡◌, ◌⊎◌, ◌<◌, ◌≤◌, ◌+◌, ◌^◌, ℕ, List, length, true, IsTrue, IfSome, Option, Some, None, Result, Ok, Err, [], ◌∷◌, ◌++◌, if◌then◌else◌, Bool, false, not, ◌&&◌}
use Rattle.std.specs.Io.KnownBytes.{IsAtEnd}
use Rattle.std.specs.FinMap.Entries.{is_sorted}
use Rattle.nn_bytes.specs.Pieces.{is_unbroken, joined_lines}
use Rattle.nn_device.specs.Device.{Reader}
use Rattle.nn_input.specs.Cut.{Came}
use Rattle.nn_model.specs.Namespace.{Path, path_cmp, Namespace}
use Rattle.nn_image.specs.declared.fault.ImageFault.{ImageFault}
use Rattle.nn_image.specs.declared.fault.ImageFault.TheVariants.{BadLine, Truncated}
use Rattle.nn_image.specs.declared.loading.Begun.{Begun}
use Rattle.nn_image.specs.declared.loading.Stage.{Stage}
use Rattle.nn_image.specs.declared.loading.Stage.TheVariants as stage
use Rattle.nn_image.specs.declared.row_line.RowLine.{RowLine}
use Rattle.nn_image.specs.declared.row_line.RowLine.TheVariants.{Row, End, Bad}
use Rattle.nn_image.specs.Lawful.{HasPaths}
use Rattle.nn_image.specs.Outcome.{ImageFails, IsNoRead, IsOfDevice}
use Rattle.nn_image.specs.Reading.{last_path, next_line_number, with_next_row, by_value, rows_from, at_end_line, nothing_more, pieces_of, all_from, read_image, ◌then◌, object_of, is_end_line}

-- the known bytes make the definition fail in this way, unless a read failed or memory ran out
abbrev pub LoadFails : {X : Type 0} → Option (List ℕ) → ImageFault → (List ℕ → Result X ImageFault) → Type 0
LoadFails known e f = (text : List ℕ) → known ≡ Some text → ImageFails e (f text)

-- the definition gives this for the known bytes, and none is left
abbrev pub GivesAtEnd : {X : Type 0} → Option (List ℕ) → Option (List ℕ) → (List ℕ → Result X ImageFault) → X → Type 0
GivesAtEnd old new f x = (text : List ℕ) → old ≡ Some text → (f text ≡ Ok x) × IsAtEnd new

-- ---- line by line

abbrev pub with_txid : ℕ → Result Namespace ImageFault → Result (Namespace × ℕ) ImageFault
with_txid txid r = r then λ n. Ok (n, txid)

-- what the lines that have come make of an image
pub data Loading : Type 0 where
  -- none has come
  at_header : Loading
  -- the header has come, and lines of paths; with the txid
  in_rows : Namespace → ℕ → Loading
  -- and the end line
  behind_end : Namespace → ℕ → Loading
  -- one of them has this fault
  refused : ImageFault → Loading

-- what they and these pieces of a text make of it: each piece except the last is a line
abbrev pub loaded_from : Loading → List (List ℕ) → Result (Namespace × ℕ) ImageFault
loaded_from at_header pieces = all_from pieces
loaded_from (in_rows n txid) pieces = with_txid txid (rows_from n pieces)
loaded_from (behind_end n txid) pieces = with_txid txid (nothing_more n pieces)
loaded_from (refused e) pieces = Err e

-- so much have these lines come to: with more behind them the text gives what that makes of its pieces
abbrev pub IsLoadingOf : List (List ℕ) → Loading → Type 0
IsLoadingOf lines l = (more : List ℕ) → read_image (joined_lines lines ++ more) ≡ loaded_from l (pieces_of more)

-- the line came
abbrev pub TakesLine : Loading → Loading → List ℕ → Type 0
TakesLine old new line = (next : List ℕ) (pieces : List (List ℕ)) → loaded_from old (line ∷ next ∷ pieces) ≡ loaded_from new (next ∷ pieces)

abbrev pub is_first : Loading → Bool
is_first at_header = true
is_first (in_rows n txid) = false
is_first (behind_end n txid) = false
is_first (refused e) = false

-- the image ends with the line, which is no header
abbrev pub ends_with : Loading → List ℕ → Bool
ends_with l line = not (is_first l) && is_end_line line

abbrev pub fault_of_loading : Loading → Option ImageFault
fault_of_loading at_header = None
fault_of_loading (in_rows n txid) = None
fault_of_loading (behind_end n txid) = None
fault_of_loading (refused e) = Some e

-- a line has the fault, whatever follows, and those before it have none. Behind it so many bytes were read
pub record StopsAtLine (before after : Reader) (e : ImageFault) : Type 0 where
  pub earlier : List (List ℕ)
  pub line : List ℕ
  pub behind : List ℕ
  pub loading : Loading
  pub came : Came before after (joined_lines (earlier ++ line ∷ []) ++ behind)
  pub few : length behind ≤ 65536
  pub unbroken : is_unbroken line ≡ true
  pub loads : IsLoadingOf earlier loading
  pub sound : fault_of_loading loading ≡ None
  pub refused : (more : List ℕ) → read_image (joined_lines (earlier ++ line ∷ []) ++ more) ≡ Err e

-- it is told there, or at the end of the text
abbrev pub StopsSoon : Reader → Reader → ImageFault → Type 0
StopsSoon before after e = IsOfDevice e ⊎ (((e ≡ Truncated) × IsAtEnd after.left) ⊎ StopsAtLine before after e)

-- ---- For private clauses.

-- what a line that was read and then the pieces make of the namespace
abbrev pub by_read : Namespace → List (List ℕ) → (Namespace → Result Namespace ImageFault) → RowLine → Result Namespace ImageFault
by_read n pieces more (Row path form) = with_next_row n (Some (path, form)) then more
by_read n pieces more (End count) = at_end_line n count pieces
by_read n pieces more Bad = Err (BadLine (next_line_number n))

-- the count of an end line is a number of the formats
abbrev pub HasLimit : RowLine → Type 0
HasLimit (Row path form) = Unit {0}
HasLimit (End count) = IfSome count (λ n. n < 2 ^ 63)
HasLimit Bad = Unit {0}

abbrev pub is_end_row : RowLine → Bool
is_end_row (Row path form) = false
is_end_row (End count) = true
is_end_row Bad = false

abbrev pub IsReadAs : List ℕ → RowLine → Type 0
IsReadAs line read = (n : Namespace) (pieces : List (List ℕ)) (more : Namespace → Result Namespace ImageFault) → by_value n pieces more (object_of line) ≡ by_read n pieces more read

-- the rows that stand so far, the path of the last of them, and the number of the next line
pub record IsLoading (n : Namespace) (before : Path) (number : ℕ) : Type 0 where
  pub sorted : IsTrue (is_sorted path_cmp n.rows)
  pub last : last_path n.rows ≡ before
  pub at : next_line_number n ≡ number

-- so it is behind a header, and behind an end line the paths are counted
pub record IsBegun (b : Begun) : Type 0 where
  pub loading : IsLoading b.namespace b.before b.number
  pub from : 2 ≤ b.number
  pub paths : HasPaths b.namespace
  pub counted : b.has_ended ≡ true → b.number ≤ 2 ^ 63 + 1

-- what is left of the lines of paths makes of them
abbrev pub rows_left : Begun → List (List ℕ) → Result Namespace ImageFault
rows_left b pieces = if b.has_ended then nothing_more b.namespace pieces else rows_from b.namespace pieces

abbrev pub state_of : Stage → Loading
state_of stage.Header = at_header
state_of (stage.Begun b) = if b.has_ended then behind_end b.namespace b.txid else in_rows b.namespace b.txid
state_of (stage.Refused e) = refused e

abbrev pub IsLawfulStage : Stage → Type 0
IsLawfulStage stage.Header = Unit {0}
IsLawfulStage (stage.Begun b) = IsBegun b
IsLawfulStage (stage.Refused e) = IsNoRead e

-- A line came behind the header: the fault that it has, or none.
abbrev pub TakesRow : Begun → Begun → RowLine → Option ImageFault → Type 0
TakesRow old new read None = (line next : List ℕ) (pieces : List (List ℕ)) → IsReadAs line read → rows_left old (line ∷ next ∷ pieces) ≡ rows_left new (next ∷ pieces)
TakesRow old new read (Some e) = (line next : List ℕ) (pieces : List (List ℕ)) → IsReadAs line read → rows_left old (line ∷ next ∷ pieces) ≡ Err e
