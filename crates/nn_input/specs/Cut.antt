-- The bytes of an input, cut into lines as they come.
use Rattle.std.specs.Prelude.{◌≡◌, ◌⊎◌, ◌≤◌, ◌+◌, ◌-◌, ◌^◌, ℕ, List, [], ◌∷◌, ◌++◌, length, take, drop, Bool, true}
use Rattle.std.specs.List.{list_all}
use Rattle.std.specs.Io.KnownBytes.{Consumes}
use Rattle.nn_device.specs.Device.{Reader}
use Rattle.nn_bytes.specs.Lines.{is_blank}
use Rattle.nn_bytes.specs.Pieces.{is_unbroken, joined_lines}
use Rattle.nn_bytes.specs.Runs.{IsPrintableTo}
use Rattle.nn_input.specs.declared.lines.Place.{Place}
use Rattle.nn_input.specs.declared.lines.Place.TheVariants as place
use Rattle.nn_input.specs.declared.fault.LinesFault.{LinesFault}
use Rattle.nn_input.specs.declared.fault.LinesFault.TheVariants.{ReadFailed, OutOfMemory}

-- what is kept of some bytes, and whether all are blank
pub record TornBytes : Type 0 where
  pub kept : List ℕ
  pub blank : Bool

abbrev pub no_bytes : TornBytes
no_bytes = record { kept = []; blank = true }

-- of these bytes so many are kept at most
pub record KeepsFirst (most : ℕ) (bytes : List ℕ) (x : TornBytes) : Type 0 where
  pub kept : x.kept ≡ take most bytes
  pub blank : x.blank ≡ is_blank bytes

-- what one read gave, of which the bytes from a place on are not cut; what is kept of the line in hand; and of the last one that
-- ended, where it came in more than one read
pub record Lines : Type 0 where
  pub buffer : List ℕ
  pub from : ℕ
  pub to : ℕ
  pub torn : TornBytes
  pub last : TornBytes

-- the bytes that were read and are not cut
abbrev pub ahead : Lines → List ℕ
ahead l = take (l.to - l.from) (drop l.from l.buffer)

-- no line is in hand: what is ahead begins with one
abbrev pub IsFresh : Lines → Type 0
IsFresh l = l.torn ≡ no_bytes

-- the text of a line that has ended
abbrev pub line_text : Lines → Place → List ℕ
line_text l (place.Read start end printable) = take (end - start) (drop start l.buffer)
line_text l place.Kept = l.last.kept

-- and whether the line is blank, which is known where its text was cut short too
abbrev pub line_blank : Lines → Place → Bool
line_blank l (place.Read start end printable) = is_blank (line_text l (place.Read start end printable))
line_blank l place.Kept = l.last.blank

-- its place is there, and its first bytes are printable
abbrev pub IsThere : Place → Lines → Type 0
IsThere (place.Read start end printable) l =
    (start ≤ end) × (end ≤ length l.buffer) × IsPrintableTo printable (take (end - start) (drop start l.buffer))
IsThere place.Kept l = Unit {0}

-- The one relation. Of an input these bytes were read: these lines have ended in them, the line in hand is kept as far as it may be, and
-- the rest is not cut yet.
pub record HasCome (most : ℕ) (bytes : List ℕ) (lines : List (List ℕ)) (l : Lines) : Type 0 where
  pub torn : List ℕ
  pub joined : bytes ≡ joined_lines lines ++ (torn ++ ahead l)
  pub each : list_all is_unbroken lines ≡ true
  pub unbroken : is_unbroken torn ≡ true
  pub kept : KeepsFirst most torn l.torn

-- the text of a line is the line, or its first bytes where it is as long as may be kept; and whether all of the line is blank
pub record IsTextOf (most : ℕ) (line text : List ℕ) (blank : Bool) : Type 0 where
  pub is : (text ≡ line) ⊎ ((most ≤ length line) × (text ≡ take most line))
  pub told : blank ≡ is_blank line

-- one line more has ended, and this is its text. The next one has not begun
pub record HasEnded (most : ℕ) (bytes : List ℕ) (lines : List (List ℕ)) (p : Place) (l : Lines) : Type 0 where
  pub line : List ℕ
  pub come : HasCome most bytes (lines ++ line ∷ []) l
  pub begins : come.torn ≡ []
  pub unbroken : is_unbroken line ≡ true
  pub text : IsTextOf most line (line_text l p) (line_blank l p)

-- no line more has ended
abbrev pub IsCutTo : ℕ → Lines → Lines → Type 0
IsCutTo most old new = (bytes : List ℕ) (lines : List (List ℕ)) → HasCome most bytes lines old → HasCome most bytes lines new

-- these bytes more were read of an input, and no read failed
pub record Came (before after : Reader) (bytes : List ℕ) : Type 0 where
  pub got : Consumes before.left after.left bytes
  pub counted : after.given ≡ before.given + length bytes
  pub unfailed : after.failed ≡ before.failed

-- a read gave bytes, which are ahead now
pub record Refilled (before after : Reader) (old new : Lines) : Type 0 where
  pub bytes : List ℕ
  pub came : Came before after bytes
  pub are : ahead new ≡ bytes
  pub torn : new.torn ≡ old.torn

-- so much more was read, and one line more has ended in it
pub record NextEnded (most : ℕ) (before after : Reader) (old new : Lines) (p : Place) : Type 0 where
  pub bytes : List ℕ
  pub came : Came before after bytes
  pub ended : (earlier : List ℕ) (lines : List (List ℕ)) → HasCome most earlier lines old → HasEnded most (earlier ++ bytes) lines p new

-- so much more was read, and no line more has ended in it
pub record ReadOn (most : ℕ) (before after : Reader) (old new : Lines) : Type 0 where
  pub bytes : List ℕ
  pub came : Came before after bytes
  pub goes_on : (earlier : List ℕ) (lines : List (List ℕ)) → HasCome most earlier lines old → HasCome most (earlier ++ bytes) lines new

-- At most so many bytes will be cut of a reader, which is given up once it gave 2^62, and of what it gave before. Each line makes it fewer.
abbrev pub still_to_cut : Reader → Lines → ℕ
still_to_cut r l = (2 ^ 62 + 2 ^ 16 - r.given) + length (ahead l)

-- the fault tells of a failed read just where one was noted
abbrev pub AsNoted : LinesFault → Bool → Bool → Type 0
AsNoted ReadFailed before after = after ≡ true
AsNoted OutOfMemory before after = after ≡ before
