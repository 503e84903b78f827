-- The image in front of an input's lines: what is passed over before it, the image, and what follows it; and how it is read.
use Rattle.std.specs.Prelude.{◌≡◌, ◌≤◌, ◌<◌, ◌+◌, ◌-◌, ◌^◌, ◌==◌, ◌&&◌, ◌⊎◌, not, ℕ, List, [], ◌∷◌, ◌++◌, length, take, codes}
use Rattle.std.specs.Prelude.{Bool, true, false, Option, Some, None, Result, Err, option_map, if◌then◌else◌}
use Rattle.std.specs.List.{list_all}
use Rattle.std.specs.Str.{bytes_eq}
use Rattle.std.specs.Io.KnownBytes.{Consumes, IsAtEnd}
use Rattle.nn_bytes.specs.Lines.{line_feed}
use Rattle.nn_bytes.specs.Pieces.{is_unbroken, joined_lines}
use Rattle.nn_types.specs.Limits.{max_input}
use Rattle.nn_device.specs.Device.{Reader}
use Rattle.nn_model.specs.Namespace.{Namespace}
use Rattle.nn_input.specs.Cut.{Came, IsFresh, Lines, ahead}
use Rattle.nn_input.specs.declared.fault.InputFault.{InputFault}
use Rattle.nn_input.specs.declared.fault.InputFault.TheVariants.{ReadFailed, TooLong, OutOfMemory}
use Rattle.nn_input.specs.declared.fault.LinesFault.{LinesFault}
use Rattle.nn_input.specs.declared.fault.LinesFault.TheVariants as lines_fault
use Rattle.nn_image.specs.Reading.{is_end_line, read_image}
use Rattle.nn_image.specs.declared.fault.ImageFault.{ImageFault}
use Rattle.nn_image.specs.declared.fault.ImageFault.TheVariants.{Truncated}
use Rattle.nn_image.specs.declared.front.FrontImage.{FrontImage}
use Rattle.nn_image.specs.declared.front.FrontImage.TheVariants.{Missing, Torn, Ended}

-- ---- Where an image begins.

-- the line after which it does
abbrev pub mark : List ℕ
mark = codes "image"

-- what follows the first line that is the mark, where the line in hand begins with these bytes
abbrev pub behind_mark : List ℕ → List ℕ → Option (List ℕ)
behind_mark line [] = None
behind_mark line (b ∷ bytes) =
    elim (b == line_feed) [
      | true ↦ elim (bytes_eq line mark) [
        | true ↦ Some bytes
        | false ↦ behind_mark [] bytes
      ]
      | false ↦ behind_mark (line ++ b ∷ []) bytes
    ]

-- an object begins here
abbrev pub begins_object : List ℕ → Bool
begins_object [] = false
begins_object (b ∷ bytes) = b == 123

-- an input from its image on: all of it, where its first byte is `{`
abbrev pub from_header : List ℕ → Option (List ℕ)
from_header input = if begins_object input then Some input else behind_mark [] input

abbrev pub bytes_of : Option (List ℕ) → List ℕ
bytes_of None = []
bytes_of (Some bytes) = bytes

-- how many bytes are passed over before an image: all, where none begins
unfoldable pub passed_over : List ℕ → ℕ
passed_over input = length input - length (bytes_of (from_header input))

-- as many as may be
abbrev pub max_passed : ℕ
max_passed = max_input

-- ---- Where it ends.

pub record Cut : Type 0 where
  pub image : List ℕ
  pub rest : List ℕ

-- the image with these bytes before it
abbrev pub onto : List ℕ → Cut → Cut
onto front cut = record { image = front ++ cut.image; rest = cut.rest }

-- What is left of an image, and what follows it. The image ends with the first line after its header that is an end line, or
-- with the bytes. The line in hand begins with these bytes, and may be the header.
abbrev pub image_cut_from : Bool → List ℕ → List ℕ → Cut
image_cut_from is_header line [] = record { image = []; rest = [] }
image_cut_from is_header line (b ∷ bytes) =
    elim (b == line_feed) [
      | true ↦ elim (not is_header && is_end_line line) [
        | true ↦ record { image = line_feed ∷ []; rest = bytes }
        | false ↦ onto (line_feed ∷ []) (image_cut_from false [] bytes)
      ]
      | false ↦ onto (b ∷ []) (image_cut_from is_header (line ++ b ∷ []) bytes)
    ]

abbrev pub rest_of : Option Cut → List ℕ
rest_of None = []
rest_of (Some cut) = cut.rest

-- the image that an input begins with, and what follows it; none where no image begins
unfoldable pub divided : List ℕ → Option Cut
divided input = option_map (image_cut_from true []) (from_header input)

-- what that image is read as
abbrev pub image_read : Option Cut → Option (Result (Namespace × ℕ) ImageFault)
image_read cut = option_map (λ c. read_image c.image) cut

-- ---- An image that is loaded as its lines come.

-- an input's image is read as this, and these bytes follow it; and not too many stand before it
pub record HasFront (input : List ℕ) (image : Option (Result (Namespace × ℕ) ImageFault)) (rest : List ℕ) : Type 0 where
  pub read : image_read (divided input) ≡ image
  pub behind : rest_of (divided input) ≡ rest
  pub passed : passed_over input ≤ max_passed

-- What a front comes to with these bytes: with an image that has ended, of which what is ahead is the rest, whatever follows; or with
-- none, or a torn one, where the input has ended.
abbrev pub FrontEnds : FrontImage → List ℕ → Reader → Lines → Type 0
FrontEnds Missing bytes r l = HasFront bytes None [] × IsAtEnd r.left × (ahead l ≡ [])
FrontEnds (Torn fault) bytes r l = HasFront bytes (Some (Err fault)) [] × IsAtEnd r.left × (ahead l ≡ [])
FrontEnds (Ended loaded) bytes r l = (more : List ℕ) → HasFront (bytes ++ more) (Some loaded) (ahead l ++ more)

-- so much more was read for one
pub record FrontRead (image : FrontImage) (before after : Reader) (old new : Lines) : Type 0 where
  pub bytes : List ℕ
  pub came : Came before after bytes
  pub ends : FrontEnds image (ahead old ++ bytes) after new
  pub fresh : IsFresh new

-- more bytes stand before an image than may, and only one read went beyond them
pub record TooMuchCame (before after : Reader) (old : Lines) : Type 0 where
  pub bytes : List ℕ
  pub came : Came before after bytes
  pub much : max_passed < passed_over (ahead old ++ bytes)
  pub soon : length (ahead old ++ bytes) ≤ max_passed + 2 ^ 16

-- why no front was read
abbrev pub WhyNoFront : InputFault → Reader → Reader → Lines → Type 0
WhyNoFront ReadFailed before after old = after.failed ≡ true
WhyNoFront TooLong before after old = TooMuchCame before after old
WhyNoFront OutOfMemory before after old = after.failed ≡ before.failed

-- ---- An image that is loaded at once.

-- the lines so far are those of an image that has not ended, and none of them is refused: so it was behind each of them
abbrev pub Waits : List (List ℕ) → Type 0
Waits lines = (n : ℕ) → read_image (joined_lines (take n lines)) ≡ Err Truncated

-- these bytes are such lines, and some bytes of another
pub record IsWaiting (bytes : List ℕ) : Type 0 where
  pub lines : List (List ℕ)
  pub torn : List ℕ
  pub are : bytes ≡ joined_lines lines ++ torn
  pub each : list_all is_unbroken lines ≡ true
  pub unbroken : is_unbroken torn ≡ true
  pub waits : Waits lines

-- an image ends with a line of these bytes, or no image has such a line: all up to it are read as this, and this is left of the bytes
pub record IsJudged (loaded : Result (Namespace × ℕ) ImageFault) (bytes left : List ℕ) : Type 0 where
  pub before : List (List ℕ)
  pub line : List ℕ
  pub are : bytes ≡ joined_lines (before ++ line ∷ []) ++ left
  pub each : list_all is_unbroken (before ++ line ∷ []) ≡ true
  pub waits : Waits before
  pub read : read_image (joined_lines (before ++ line ∷ [])) ≡ loaded
  pub told : loaded ≡ Err Truncated → ⊥

-- or the input ends while it waits
pub record EndsWaiting (loaded : Result (Namespace × ℕ) ImageFault) (bytes left : List ℕ) (r : Reader) : Type 0 where
  pub none : left ≡ []
  pub end : IsAtEnd r.left
  pub waiting : IsWaiting bytes
  pub told : loaded ≡ Err Truncated

-- before the last read, by which these bytes came, it waited
pub record WaitsUntil (bytes : List ℕ) : Type 0 where
  pub earlier : List ℕ
  pub last : List ℕ
  pub are : bytes ≡ earlier ++ last
  pub waiting : IsWaiting earlier
  pub one_read : length last ≤ 2 ^ 16

-- so much was read for it
pub record LoadedAtOnce (loaded : Result (Namespace × ℕ) ImageFault) (before after : Reader) (new : Lines) : Type 0 where
  pub bytes : List ℕ
  pub came : Came before after bytes
  pub until : WaitsUntil bytes
  pub is : IsJudged loaded bytes (ahead new) ⊎ EndsWaiting loaded bytes (ahead new) after
  pub fresh : IsFresh new

-- a read failed while it waits: the device refused it, or the reader had failed before, or it gave 2^62 bytes
pub record FailsWaiting (before after : Reader) : Type 0 where
  pub bytes : List ℕ
  pub got : Consumes before.left after.left bytes
  pub counted : after.given ≡ before.given + length bytes
  pub waiting : IsWaiting bytes
  pub noted : after.failed ≡ true
  pub why : (after.refused ≡ true) ⊎ ((before.failed ≡ true) ⊎ (2 ^ 62 ≤ after.given))

-- memory was refused
pub record StopsWaiting (before after : Reader) : Type 0 where
  pub bytes : List ℕ
  pub came : Came before after bytes
  pub until : WaitsUntil bytes

-- why it was not loaded
abbrev pub WhyNotLoaded : LinesFault → Reader → Reader → Type 0
WhyNotLoaded lines_fault.ReadFailed before after = FailsWaiting before after
WhyNotLoaded lines_fault.OutOfMemory before after = StopsWaiting before after
