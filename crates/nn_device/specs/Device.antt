-- What reads and writes leave of a device that notes the ones that failed.
use Rattle.std.specs.Prelude.{◌≡◌, ◌⊎◌, ℕ, ◌+◌, ◌<◌, ◌≤◌, ◌^◌, Bool, true, false, List, length, take, Option}
use Rattle.std.specs.Io.KnownBytes.{Appends}

-- A reader: the bytes that it has left, where they are known; how many reads were counted, and how many bytes all reads gave;
-- whether a read failed, and whether the device refused one. A read that is not made fails too.
pub record Reader : Type 0 where
  pub left : Option (List ℕ)
  pub reads : ℕ
  pub given : ℕ
  pub failed : Bool
  pub refused : Bool

-- A writer: the bytes that it holds, where they are known; how many its writes took; whether a write failed.
pub record Writer : Type 0 where
  pub contents : Option (List ℕ)
  pub taken : ℕ
  pub failed : Bool

-- A read of a reader that had not failed gave n bytes, and did not fail.
pub record Gave (old new : Reader) (n : ℕ) : Type 0 where
  pub open_before : old.failed ≡ false
  pub open_after : new.failed ≡ false
  pub unrefused : new.refused ≡ old.refused
  pub read : new.reads ≡ old.reads + 1
  pub counted : new.given ≡ old.given + n
  pub bounded : old.given < 2 ^ 62

-- the device refused a read, or none was made: of a reader that had failed, or had given 2^62 bytes
abbrev pub IsRefusal : Reader → Reader → Type 0
IsRefusal old new = (new.refused ≡ true) ⊎ ((old.failed ≡ true) ⊎ (2 ^ 62 ≤ old.given))

-- A read failed, and gave nothing. A reader that had failed before was not read again, nor one that was read so often.
pub record FailedToRead (old new : Reader) : Type 0 where
  pub noted : new.failed ≡ true
  pub read : (new.reads ≡ old.reads) ⊎ ((new.reads ≡ old.reads + 1) × (old.failed ≡ false))
  pub counted : new.given ≡ old.given
  pub why : IsRefusal old new ⊎ (2 ^ 24 ≤ old.reads)

-- The same of a read that is not counted.
pub record GaveOn (old new : Reader) (n : ℕ) : Type 0 where
  pub open_before : old.failed ≡ false
  pub open_after : new.failed ≡ false
  pub unrefused : new.refused ≡ old.refused
  pub read : new.reads ≡ old.reads
  pub counted : new.given ≡ old.given + n
  pub bounded : old.given < 2 ^ 62

pub record FailedToReadOn (old new : Reader) : Type 0 where
  pub noted : new.failed ≡ true
  pub read : new.reads ≡ old.reads
  pub counted : new.given ≡ old.given
  pub why : IsRefusal old new

-- The writer took all of the text, and no write failed.
pub record Took (old new : Writer) (text : List ℕ) : Type 0 where
  pub bytes : Appends old.contents new.contents text
  pub counted : new.taken ≡ old.taken + length text
  pub unfailed : new.failed ≡ old.failed

-- A write failed after the first bytes of the text, which are not all.
pub record FailedToWrite (old new : Writer) (text : List ℕ) (written : ℕ) : Type 0 where
  pub short : written < length text
  pub bytes : Appends old.contents new.contents (take written text)
  pub counted : new.taken ≡ old.taken + written
  pub noted : new.failed ≡ true
