-- The namespace and the txid that a text stands for, or the first fault that applies.
use Rattle.std.specs.Prelude.{ℕ, ◌+◌, ◌-◌, ◌^◌, List, [], ◌∷◌, ◌++◌, length, Bool, false, nat_lt, nat_le, ◌&&◌, ◌==◌, ◌||◌, if◌then◌else◌, Option, Some, None, option_and_then, Result, Ok, Err, codes, is_some}
use Rattle.std.specs.Option.{ok_or}
use Rattle.std.specs.Ordering.{is_lt}
use Rattle.std.specs.Str.{bytes_eq, is_utf8}
use Rattle.serde_json.specs.Data.{Data, Items, no_items, item}
use Rattle.serde_json.specs.Find.{get, as_number, as_u64, as_str, as_bool, as_array, as_object}
use Rattle.serde_json.specs.Read.{read}
use Rattle.nn_bytes.specs.Pieces.{pieces}
use Rattle.nn_types.specs.Profile.{profile_of}
use Rattle.nn_types.specs.declared.profile.Profile.{Profile}
use Rattle.nn_types.specs.declared.profile.Profile.TheVariants.{One}
use Rattle.nn_types.specs.Path.{path_of}
use Rattle.nn_types.specs.declared.block.Block.{Block}
use Rattle.nn_model.specs.declared.form.Form.{Form}
use Rattle.nn_model.specs.declared.form.Form.TheVariants.{Dir, File}
use Rattle.nn_model.specs.Namespace.{Path, path_cmp, Namespace, no_block, no_stamp}
use Rattle.nn_tree.specs.Restore.{bare, awaiting_fits, replication_fits, row_fits}
use Rattle.nn_image.specs.declared.fault.ImageFault.{ImageFault}
use Rattle.nn_image.specs.declared.fault.ImageFault.TheVariants.{NotHeader, BadLine, WrongOrder, CountMismatch, Truncated, BadVersion}

infixl 10 ◌>>=◌
abbrev pub ◌>>=◌ : {A B : Type 0} → Option A → (A → Option B) → Option B
None >>= f = None
(Some x) >>= f = f x

-- ---- members of an object

-- the number, if it is below 2^63
abbrev pub limited : Option ℕ → Option ℕ
limited None = None
limited (Some n) = if nat_lt n (2 ^ 63) then Some n else None

-- a whole number below 2^63
abbrev pub whole_value : Data → Option ℕ
whole_value d = limited (option_and_then as_u64 (as_number d))

unfoldable pub number_under : List ℕ → Data → Option ℕ
number_under key d = get key d >>= whole_value

unfoldable pub text_under : List ℕ → Data → Option (List ℕ)
text_under key d = get key d >>= as_str

unfoldable pub flag_under : List ℕ → Data → Option Bool
flag_under key d = get key d >>= as_bool

unfoldable pub array_under : List ℕ → Data → Option Items
array_under key d = get key d >>= as_array

unfoldable pub path_under : List ℕ → Data → Option Path
path_under key d = text_under key d >>= path_of

unfoldable pub block_of : Data → Option Block
block_of d = do
  id ← number_under (codes "id") d
  stamp ← number_under (codes "gen") d
  len ← number_under (codes "len") d
  Some (record { id = id; stamp = stamp; len = len })

-- what f makes of each item, if it makes something of all of them
unfoldable pub gathered : {B : Type 0} → (Data → Option B) → Items → Option (List B)
gathered f no_items = Some []
gathered f (item d ds) = f d >>= λ b. gathered f ds >>= λ bs. Some (b ∷ bs)

unfoldable pub blocks_at : List ℕ → Data → Option (List Block)
blocks_at key d = array_under key d >>= gathered block_of

unfoldable pub numbers_at : List ℕ → Data → Option (List ℕ)
numbers_at key d = array_under key d >>= gathered whole_value

-- ---- the lines' values

unfoldable pub replication_value : Data → Option ℕ
replication_value d = number_under (codes "replication") d >>= λ r. if replication_fits r then Some r else None

unfoldable pub file_in : Data → Option Form
file_in d = do
  blocks ← blocks_at (codes "blocks") d
  closed ← flag_under (codes "closed") d
  replication ← replication_value d
  Some (File (record { replication = replication; closed = closed; blocks = blocks }))

unfoldable pub form_by_kind : List ℕ → Data → Option Form
form_by_kind kind d = if bytes_eq kind (codes "dir") then Some Dir else if bytes_eq kind (codes "file") then file_in d else None

unfoldable pub form_in : Data → Option Form
form_in d = text_under (codes "type") d >>= λ kind. form_by_kind kind d

-- the path and the form of a path line
unfoldable pub row_of_line : Data → Option (Path × Form)
row_of_line d = do
  p ← path_under (codes "path") d
  form ← form_in d
  Some (p, form)

abbrev pub is_header : List ℕ → ℕ → ℕ → List ℕ → Bool
is_header mark last_block last_stamp ids = bytes_eq mark (codes "hdfs-standby") && nat_le no_block last_block && nat_le no_stamp last_stamp && awaiting_fits last_block ids

-- the profile of a header: version 1 has none, and stands for profile 1
unfoldable pub header_profile : ℕ → Data → Option Profile
header_profile version d = if version == 1 then Some One else number_under (codes "profile") d >>= profile_of

-- what the header of a version says
unfoldable pub fields_in : ℕ → Data → Option (Namespace × ℕ)
fields_in version d = do
  mark ← text_under (codes "image") d
  txid ← number_under (codes "txid") d
  last_block ← number_under (codes "last_block") d
  last_stamp ← number_under (codes "last_gen") d
  ids ← numbers_at (codes "awaiting") d
  profile ← header_profile version d
  (if is_header mark last_block last_stamp ids then Some (bare (record { last_block = last_block; last_stamp = last_stamp; awaiting = ids; profile = profile }), txid) else None)

-- what the header says, by its version: 1 or 2
abbrev pub of_version : Data → Option ℕ → Result (Namespace × ℕ) ImageFault
of_version d None = Err NotHeader
of_version d (Some version) = if (version == 1) || (version == 2) then ok_or (fields_in version d) NotHeader else Err BadVersion

-- the value that a line is, if it is JSON in UTF-8
unfoldable pub value_of_line : List ℕ → Option Data
value_of_line line = if is_utf8 line then read line else None

-- the value, if it is an object
abbrev pub if_object : Data → Option Data
if_object d = if is_some (as_object d) then Some d else None

-- the object that a line is
unfoldable pub object_of : List ℕ → Option Data
object_of line = value_of_line line >>= if_object

abbrev pub has_end : Option Data → Bool
has_end None = false
has_end (Some value) = is_some (get (codes "end") value)

-- behind the header the image ends with the first object that has a member `end`
unfoldable pub is_end_line : List ℕ → Bool
is_end_line line = has_end (object_of line)

-- what the first line says, if it is an object
abbrev pub of_header : Option Data → Result (Namespace × ℕ) ImageFault
of_header None = Err NotHeader
of_header (Some d) = of_version d (number_under (codes "version") d)

-- ---- the lines, each judged by the namespace of the lines before it

-- f of the value, or the fault
infixl 10 ◌then◌
abbrev pub ◌then◌ : {A B : Type 0} → Result A ImageFault → (A → Result B ImageFault) → Result B ImageFault
(Ok x) then f = f x
(Err e) then f = Err e

-- the same namespace with other rows
abbrev pub with_rows : Namespace → List (Path × Form) → Namespace
with_rows n rows = record n { rows = rows }

-- the path of the last row
abbrev pub last_path : List (Path × Form) → Path
last_path [] = []
last_path (row ∷ []) = row.0
last_path (row ∷ next ∷ rows) = last_path (next ∷ rows)

-- the number of the next line, where the header is line 1 and the root has no line
abbrev pub next_line_number : Namespace → ℕ
next_line_number n = length n.rows + 1

-- the namespace with the row of the next line, if that is one, in order, and fits
abbrev pub with_next_row : Namespace → Option (Path × Form) → Result Namespace ImageFault
with_next_row n None = Err (BadLine (next_line_number n))
with_next_row n (Some row) =
    if is_lt (path_cmp (last_path n.rows) row.0)
    then (if row_fits n row.0 row.1 then Ok (with_rows n (n.rows ++ row ∷ [])) else Err (BadLine (next_line_number n)))
    else Err (WrongOrder (next_line_number n))

-- what follows the end line: nothing, or a fault
abbrev pub nothing_more : Namespace → List (List ℕ) → Result Namespace ImageFault
nothing_more n [] = Ok n
nothing_more n ([] ∷ []) = Ok n
nothing_more n ((b ∷ bs) ∷ []) = Err Truncated
nothing_more n (line ∷ next ∷ pieces) = Err (BadLine (next_line_number n + 1))

-- the end line, with its count of paths, and what follows it
abbrev pub at_end_line : Namespace → Option ℕ → List (List ℕ) → Result Namespace ImageFault
at_end_line n None pieces = Err (BadLine (next_line_number n))
at_end_line n (Some count) pieces = if count == (length n.rows - 1) then nothing_more n pieces else Err CountMismatch

-- what the next line's value and then the pieces make of the namespace: with a key `end` it is the end line
abbrev pub by_key : Namespace → Data → List (List ℕ) → (Namespace → Result Namespace ImageFault) → Option Data → Result Namespace ImageFault
by_key n d pieces more None = with_next_row n (row_of_line d) then more
by_key n d pieces more (Some count) = at_end_line n (whole_value count) pieces

abbrev pub by_value : Namespace → List (List ℕ) → (Namespace → Result Namespace ImageFault) → Option Data → Result Namespace ImageFault
by_value n pieces more None = Err (BadLine (next_line_number n))
by_value n pieces more (Some d) = by_key n d pieces more (get (codes "end") d)

-- the pieces between line feeds: each except the last is a line
unfoldable pub rows_from : Namespace → List (List ℕ) → Result Namespace ImageFault
rows_from n [] = Err Truncated
rows_from n (torn ∷ []) = Err Truncated
rows_from n (line ∷ next ∷ pieces) = by_value n (next ∷ pieces) (λ m. rows_from m (next ∷ pieces)) (object_of line)

unfoldable pub pieces_of : List ℕ → List (List ℕ)
pieces_of text = pieces text

unfoldable pub all_from : List (List ℕ) → Result (Namespace × ℕ) ImageFault
all_from [] = Err Truncated
all_from (torn ∷ []) = Err Truncated
all_from (line ∷ next ∷ pieces) = of_header (object_of line) then λ head. rows_from head.0 (next ∷ pieces) then λ n. Ok (n, head.1)

unfoldable pub read_image : List ℕ → Result (Namespace × ℕ) ImageFault
read_image text = all_from (pieces_of text)
