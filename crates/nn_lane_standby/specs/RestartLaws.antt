-- What a restart keeps, as statements; the functions of the crate prove them.
use Rattle.std.specs.Prelude.{◌≡◌, ℕ, ◌+◌, ◌<◌, ◌^◌, List, ◌++◌, length, None, Some, Ok}
use Rattle.std.specs.List.{AllByRecursion}
use Rattle.nn_types.specs.declared.tx.Tx.{Tx}
use Rattle.nn_model.specs.Namespace.{Namespace}
use Rattle.nn_model.specs.Log.{namespace_after, IsLog}
use Rattle.nn_model.specs.Status.{status_of}
use Rattle.nn_model.specs.WellFormed.{IsWellFormed, HasUtf8Names}
use Rattle.nn_shadow.specs.declared.fault.Stop.{Stop}
use Rattle.nn_segment.specs.Segment.{Segment, IsSegment}
use Rattle.nn_segment.specs.Source.{Answer}
use Rattle.nn_segment.specs.LogEnd.{end_of_log, given_in}
use Rattle.nn_image.specs.Text.{image_text}
use Rattle.nn_image.specs.OldText.{old_image_text}
use Rattle.nn_image.specs.Lawful.{HasPaths, IsCountable}
use Rattle.nn_image.specs.Reading.{read_image}
use Rattle.nn_lane_standby.specs.Tailing.{Standby, StandsAt, StopsLog}

-- the standby has the namespace and the last txid of just this log
abbrev pub IsAtLog : Namespace → ℕ → List Tx → Standby → Type 0
IsAtLog start base txs x = IsLog start base txs × (x.shadow.namespace ≡ namespace_after start txs) × (x.shadow.last ≡ base + length txs)

-- A standby that goes on from the namespace and the last txid of another stands at a log of that one's start: what that one
-- had applied, and then what it applied itself.
abbrev pub RestartGoesOn : Type 0
RestartGoesOn = (start : Namespace) (base : ℕ) (given more : List Answer) (x y : Standby) (first : StandsAt start base given x)
    (second : StandsAt x.shadow.namespace x.shadow.last more y) → IsAtLog start base (first.txs ++ second.txs) y

-- It may be given all segments again: it passes over the transactions that are in its namespace, applies the others, and
-- ends, or stops, where one does that begins at the start.
abbrev pub ReadsAgain : Type 0
ReadsAgain = (start : Namespace) (base : ℕ) (given : List Answer) (x : Standby) → StandsAt start base given x → x.stop ≡ None
    → AllByRecursion IsSegment (given_in given) → (later : List Segment)
    → end_of_log x.shadow.last x.shadow.namespace (given_in given ++ later) ≡ end_of_log base start (given_in given ++ later)

-- One that goes on from a standby which its log had stopped stops there too, with the same fault, once it is given all segments
-- again.
abbrev pub StopsAgain : Type 0
StopsAgain = (start : Namespace) (base : ℕ) (given : List Answer) (x : Standby) (s : Stop) → StandsAt start base given x → x.stop ≡ Some s
    → s.txid ≡ x.shadow.last + 1 → AllByRecursion IsSegment (given_in given) → StopsLog x.shadow.namespace x.shadow.last given s

-- what is said of each block id by the namespace that an image was written of, the namespace that it is read as says too
abbrev pub KeepsStatus : Type 0
KeepsStatus = (n : Namespace) (txid : ℕ) (m : Namespace × ℕ) → IsWellFormed n → HasUtf8Names n → HasPaths n → IsCountable n → txid < 2 ^ 63
    → read_image (image_text n txid) ≡ Ok m → (id : ℕ) → status_of m.0 id ≡ status_of n id

-- and so it is with an image of version 1, which has no profile
abbrev pub KeepsOldStatus : Type 0
KeepsOldStatus = (n : Namespace) (txid : ℕ) (m : Namespace × ℕ) → IsWellFormed n → HasUtf8Names n → HasPaths n → IsCountable n → txid < 2 ^ 63
    → read_image (old_image_text n txid) ≡ Ok m → (id : ℕ) → status_of m.0 id ≡ status_of n id
