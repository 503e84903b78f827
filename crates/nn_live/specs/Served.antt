-- What is served of an input: a service, and the lines that come to it.
use Rattle.std.specs.Prelude.{◌≡◌, ◌<◌, ◌≤◌, ◌+◌, ◌^◌, ℕ, Bool, true, false, List, [], ◌++◌, length}
use Rattle.std.specs.Io.KnownBytes.{IsAtEnd, Keeps}
use Rattle.nn_device.specs.Device.{FailedToReadOn, Reader}
use Rattle.nn_input.specs.Cut.{HasCome, Lines, Refilled, ahead}
use Rattle.nn_live.specs.Live.{LiveSetup, ServiceState, takes_all, written_of}
use Rattle.nn_live.specs.Serving.{IsAtService, Service}
use Rattle.nn_live.specs.Taking.{LacksLine, stage_after}
use Rattle.nn_types.specs.Limits.{max_line}

-- what the code has: a service, and the lines of its input
pub record ServedInput : Type 0 where
  pub service : Service
  pub lines : Lines

-- These bytes came to a service that began here. Each line that has ended in them, and was cut, is taken, and this is all that was
-- written. Of the line in hand 65,537 bytes are kept at most.
pub record HasServed (asked : LiveSetup) (first : ServiceState) (bytes told : List ℕ) (x : ServedInput) : Type 0 where
  pub lines : List (List ℕ)
  pub come : HasCome (max_line + 1) bytes lines x.lines
  pub at : IsAtService asked x.service (takes_all asked lines first)
  pub written : (takes_all asked lines first).written ≡ told

-- more of its lines were taken, and this was told of them
abbrev pub TakesLines : ServedInput → ServedInput → List ℕ → Type 0
TakesLines old new more =
    (asked : LiveSetup) (first : ServiceState) (bytes told : List ℕ) → HasServed asked first bytes told old
    → HasServed asked first bytes (told ++ more) new

-- or one of them was not taken
abbrev pub LeavesLine : ServedInput → List ℕ → Type 0
LeavesLine old more =
    (asked : LiveSetup) (first : ServiceState) (bytes told : List ℕ) → HasServed asked first bytes told old
    → LacksLine (λ some. written_of (stage_after asked first some).0) bytes (told ++ more)

-- A read gave bytes, or none where the input has ended. They are not taken.
pub record ReadsAhead (more : Bool) (before after : Reader) (old new : ServedInput) : Type 0 where
  pub read : Refilled before after old.lines new.lines
  pub same : new.service ≡ old.service
  pub one_read : length (ahead new.lines) ≤ 2 ^ 16
  pub some : more ≡ true → (before.given < after.given) × (before.given < 2 ^ 62)
  pub none : more ≡ false → (ahead new.lines ≡ []) × IsAtEnd after.left

-- a read failed, and gave nothing
abbrev pub StopsReading : Reader → Reader → Type 0
StopsReading before after = Keeps before.left after.left × FailedToReadOn before after
