-- For private clauses: how the image in front of an input's lines is found and loaded.
use Rattle.std.specs.Prelude.{◌≡◌, ◌<◌, ◌≤◌, ◌+◌, ◌-◌, ◌^◌, ℕ, List, [], ◌∷◌, ◌++◌, length, Bool, true, false, not, Some, None, Result, Err}
use Rattle.std.specs.List.{list_all}
use Rattle.std.specs.Str.{bytes_eq}
use Rattle.std.specs.Io.KnownBytes.{IsAtEnd}
use Rattle.nn_bytes.specs.Pieces.{joined_lines}
use Rattle.nn_device.specs.Device.{Reader}
use Rattle.nn_model.specs.Namespace.{Namespace}
use Rattle.nn_input.specs.Cut.{Came, HasCome, IsFresh, Lines, ahead}
use Rattle.nn_image.specs.Loading.{Loading, at_header, in_rows, behind_end, refused, fault_of_loading, is_first, loaded_from}
use Rattle.nn_image.specs.Reading.{pieces_of, read_image}
use Rattle.nn_image.specs.declared.fault.ImageFault.{ImageFault}
use Rattle.nn_image.specs.Front.{IsJudged, Waits, WaitsUntil, begins_object, from_header, image_cut_from, mark, max_passed, onto}
use Rattle.nn_image.specs.declared.front.FrontImage.{FrontImage}
use Rattle.nn_image.specs.declared.front.FrontImage.TheVariants.{Missing, Torn, Ended}

-- ---- What is passed over.

-- no line of these is the mark
abbrev pub has_no_mark : List (List ℕ) → Bool
has_no_mark passed = list_all (λ line. not (bytes_eq line mark)) passed

-- no line that has ended in these bytes is the mark
pub record IsPassing (bytes : List ℕ) (l : Lines) : Type 0 where
  pub passed : List (List ℕ)
  pub come : HasCome 6 bytes passed l
  pub none : has_no_mark passed ≡ true

-- only the last one is
pub record IsAtMark (bytes : List ℕ) (l : Lines) : Type 0 where
  pub passed : List (List ℕ)
  pub come : HasCome 6 bytes (passed ++ mark ∷ []) l
  pub none : has_no_mark passed ≡ true
  pub fresh : IsFresh l

-- so much more was read on the way to it
pub record HasPassed (before after : Reader) (old new : Lines) : Type 0 where
  pub bytes : List ℕ
  pub came : Came before after bytes
  pub passing : IsPassing (ahead old ++ bytes) new

-- a byte came, and no object begins with it
abbrev pub IsNoObject : List ℕ → Type 0
IsNoObject bytes = (0 < length bytes) × (begins_object bytes ≡ false)

-- an image begins with what is ahead, or none does in the input
abbrev pub IsHeaderAhead : Bool → List ℕ → Reader → Lines → Type 0
IsHeaderAhead true bytes r l = ((more : List ℕ) → from_header (bytes ++ more) ≡ Some (ahead l ++ more)) × IsFresh l
IsHeaderAhead false bytes r l = (from_header bytes ≡ None) × IsAtEnd r.left × (ahead l ≡ [])

-- so much more was read to see that
pub record PassedOver (found : Bool) (before after : Reader) (old new : Lines) : Type 0 where
  pub bytes : List ℕ
  pub came : Came before after bytes
  pub header : IsHeaderAhead found (ahead old ++ bytes) after new
  pub fits : length (ahead old ++ bytes) ≤ max_passed + length (ahead new)

-- more bytes are cut than may be passed over, since so many were ahead
abbrev pub IsTooMuchCut : Reader → Reader → ℕ → ℕ → Type 0
IsTooMuchCut before after old new = before.given + (new + max_passed) < after.given + old

-- ---- An image.

-- of an image's line all bytes are kept
abbrev pub all_bytes : ℕ
all_bytes = 2 ^ 64 - 1

-- no end line has come
abbrev pub IsOpen : Loading → Type 0
IsOpen at_header = Unit {0}
IsOpen (in_rows n txid) = Unit {0}
IsOpen (behind_end n txid) = ⊥
IsOpen (refused e) = Unit {0}

-- The lines that have ended in these bytes are loaded, and the image goes on with what follows.
pub record IsOnImage (bytes : List ℕ) (l : Lines) (loading : Loading) : Type 0 where
  pub lines : List (List ℕ)
  pub come : HasCome all_bytes bytes lines l
  pub loaded : (more : List ℕ) → read_image (joined_lines lines ++ more) ≡ loaded_from loading (pieces_of more)
  pub cut : (more : List ℕ) → image_cut_from true [] (joined_lines lines ++ more) ≡ onto (joined_lines lines) (image_cut_from (is_first loading) [] more)
  pub unended : IsOpen loading

-- so much more was read for them
pub record HasImage (before after : Reader) (old new : Lines) (loading : Loading) : Type 0 where
  pub bytes : List ℕ
  pub came : Came before after bytes
  pub on : IsOnImage (ahead old ++ bytes) new loading

-- all of these bytes are of an image, which has this fault
pub record IsTornImage (fault : ImageFault) (bytes : List ℕ) : Type 0 where
  pub whole : image_cut_from true [] bytes ≡ record { image = bytes; rest = [] }
  pub bad : read_image bytes ≡ Err fault

-- the image in front of these bytes has ended, whatever follows, and this is left of them
pub record IsEndedImage (loaded : Result (Namespace × ℕ) ImageFault) (bytes left : List ℕ) : Type 0 where
  pub image : List ℕ
  pub read : read_image image ≡ loaded
  pub cut : (more : List ℕ) → image_cut_from true [] (bytes ++ more) ≡ record { image = image; rest = left ++ more }

-- what an image comes to with these bytes
abbrev pub ImageEnds : FrontImage → List ℕ → Reader → Lines → Type 0
ImageEnds Missing bytes r l = ⊥
ImageEnds (Torn fault) bytes r l = IsTornImage fault bytes × IsAtEnd r.left × (ahead l ≡ [])
ImageEnds (Ended loaded) bytes r l = IsEndedImage loaded bytes (ahead l)

-- so much more was read for it
pub record ImageRead (image : FrontImage) (before after : Reader) (old new : Lines) : Type 0 where
  pub bytes : List ℕ
  pub came : Came before after bytes
  pub ends : ImageEnds image (ahead old ++ bytes) after new
  pub fresh : IsFresh new

-- ---- An image that is loaded at once.

-- the lines that have ended in these bytes are loaded, and it waits
pub record WaitsOn (bytes : List ℕ) (l : Lines) (loading : Loading) : Type 0 where
  pub lines : List (List ℕ)
  pub come : HasCome all_bytes bytes lines l
  pub loaded : (more : List ℕ) → read_image (joined_lines lines ++ more) ≡ loaded_from loading (pieces_of more)
  pub waits : Waits lines
  pub unended : IsOpen loading
  pub well : fault_of_loading loading ≡ None

-- it has ended, or a line is refused
pub record HasJudged (bytes : List ℕ) (l : Lines) (loading : Loading) : Type 0 where
  pub is : IsJudged (loaded_from loading ([] ∷ [])) bytes (ahead l)
  pub fresh : IsFresh l

-- so much more was read, and it waits
pub record HasWaited (before after : Reader) (l : Lines) (loading : Loading) : Type 0 where
  pub bytes : List ℕ
  pub came : Came before after bytes
  pub on : WaitsOn bytes l loading
  pub until : WaitsUntil bytes
