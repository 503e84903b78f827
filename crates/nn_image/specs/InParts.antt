-- An image that is written in parts.
use Rattle.std.specs.Prelude.{◌≡◌, ◌<◌, ◌+◌, ◌-◌, ◌==◌, ◌||◌, ◌++◌, cond, ℕ, List, [], ◌∷◌, length, drop, Result, Ok, Err, Option, Some, None, MatchOption}
use Rattle.nn_device.specs.Device.{Writer, Took}
use Rattle.nn_device.specs.Parts.{TookPrefix}
use Rattle.nn_device.specs.declared.writer.OutputFault.{OutputFault}
use Rattle.nn_device.specs.declared.writer.OutputFault.TheVariants as stop
use Rattle.nn_model.specs.declared.form.Form.{Form}
use Rattle.nn_model.specs.Namespace.{Path, Namespace}
use Rattle.nn_tree.specs.At.{names_of}
use Rattle.nn_tree.specs.Rows.{rows_from}
use Rattle.nn_image.specs.declared.fault.SaveFault.{SaveFault}
use Rattle.nn_image.specs.declared.fault.SaveFault.TheVariants as save
use Rattle.nn_image.specs.declared.saving.parts.Part.{Part}
use Rattle.nn_image.specs.Saving.{cause_of}
use Rattle.nn_image.specs.Text.{value_line, header_data, row_data, row_lines, end_data, image_text}

-- where an image goes on: the names of the next path, none at first; and how many paths have their lines
pub record Place : Type 0 where
  pub path : Path
  pub count : ℕ

-- the paths that have lines, from the path p on: all but the root
abbrev pub paths_from : Path → Namespace → List (Path × Form)
paths_from p n = rows_from p (drop 1 n.rows)

-- Of these rows those of a part: no more than so many, and none behind the one with whose line so many bytes are reached.
abbrev pub part_of : ℕ → ℕ → List (Path × Form) → List (Path × Form)
part_of rows bytes [] = []
part_of rows bytes (row ∷ more) = cond (rows == 0 || bytes == 0) [] (row ∷ part_of (rows - 1) (bytes - length (value_line (row_data row))) more)

-- the rows of the part at a place: it ends with 256 KiB, too
abbrev pub part_at : ℕ → Place → Namespace → List (Path × Form)
part_at rows s n = part_of rows 262144 (paths_from s.path n)

-- and those behind it
abbrev pub behind_part : ℕ → Place → Namespace → List (Path × Form)
behind_part rows s n = drop (length (part_at rows s n)) (paths_from s.path n)

-- what is still to be written: the line of each path from the place on, and the last line
abbrev pub rest_text : Place → Namespace → List ℕ
rest_text s n = row_lines (paths_from s.path n) ++ value_line (end_data (s.count + length (paths_from s.path n)))

-- the last line of an image of so many paths, where none is left
abbrev pub last_line : {A : Type 0} → Option A → ℕ → List ℕ
last_line None paths = value_line (end_data paths)
last_line (Some next) paths = []

-- before the first path
abbrev pub first_place : Place
first_place = record { path = []; count = 0 }

-- the first line was written
pub record WroteHeader (n : Namespace) (txid : ℕ) (old new : Writer) (s : Place) : Type 0 where
  pub took : Took old new (value_line (header_data n txid))
  pub place : s ≡ first_place

-- the lines of the part were written, and paths are left
pub record WrotePart (n : Namespace) (rows : ℕ) (s : Place) (old new : Writer) (t : Place) : Type 0 where
  pub took : Took old new (row_lines (part_at rows s n))
  pub left : 0 < length (behind_part rows s n)
  pub next : paths_from t.path n ≡ behind_part rows s n
  pub counted : t.count ≡ s.count + length (part_at rows s n)

-- no path was left behind the part, and all was written
pub record IsRest (n : Namespace) (rows : ℕ) (s : Place) (old new : Writer) : Type 0 where
  pub took : Took old new (rest_text s n)
  pub none_left : behind_part rows s n ≡ []

-- since `start` a prefix of the image was written, and what is still to be written is the rest of it
pub record IsSaving (n : Namespace) (txid : ℕ) (start now : Writer) (s : Place) : Type 0 where
  pub prefix : List ℕ
  pub took : Took start now prefix
  pub whole : image_text n txid ≡ prefix ++ rest_text s n

-- what such an image has come to: a longer prefix, the whole, or a prefix that is not gone on with
abbrev pub IsSavedBy : Namespace → ℕ → Writer → Writer → Result (Option Place) SaveFault → Type 0
IsSavedBy n txid start now (Ok (Some s)) = IsSaving n txid start now s
IsSavedBy n txid start now (Ok None) = Took start now (image_text n txid)
IsSavedBy n txid start now (Err e) = TookPrefix start now (image_text n txid) (cause_of e)

-- ---- For private clauses.

abbrev pub fault_of : OutputFault → ℕ → SaveFault
fault_of stop.WriteFailed written = save.WriteFault written
fault_of stop.OutOfMemory written = save.OutOfMemory

-- where the paths from a path on come to a row, those from its own path on are that row and all behind it
abbrev pub Resumes : Namespace → Type 0
Resumes n = (p : Path) (prefix : List (Path × Form)) (row : Path × Form) (back : List (Path × Form)) → paths_from p n ≡ prefix ++ row ∷ back → paths_from row.0 n ≡ row ∷ back

-- the first of these rows is that of a path
abbrev pub Begin : Path → List (Path × Form) → Type 0
Begin p rows = (form : Form) × (more : List (Path × Form)) × (rows ≡ (p, form) ∷ more)

-- the lines of a part of these rows were put
pub record IsPart (rows bytes : ℕ) (all : List (Path × Form)) (part : Part) : Type 0 where
  pub lines : part.lines ≡ length (part_of rows bytes all)
  pub next : MatchOption part.next (drop (length (part_of rows bytes all)) all ≡ []) (λ names. Begin (names_of names.items) (drop (length (part_of rows bytes all)) all))
