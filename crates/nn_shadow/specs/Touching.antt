-- The blocks that an edit touched, in ascending order, among those that messages are held about.
use Rattle.std.specs.Prelude.{◌≡◌, ℕ, ◌≤◌, Bool, true, false, not, ◌&&◌, List, [], ◌∷◌, Option, Some, None, IfSome, nat_le, nat_lt, if◌then◌else◌}
use Rattle.std.specs.List.{list_any}
use Rattle.nn_types.specs.declared.report.Message.{Message}
use Rattle.nn_types.specs.declared.edit.Edit.{Edit}
use Rattle.nn_types.specs.declared.edit.Edit.TheVariants.{StartSegment, EndSegment, Mkdir, Add, AddBlock, UpdateBlocks, Close, Append, Rename, Delete}
use Rattle.nn_types.specs.declared.edit.Edit.TheVariants.{SetReplication, AllocateBlockId, SetGenstamp}
use Rattle.nn_model.specs.Namespace.{Namespace, file_at}
use Rattle.nn_model.specs.Touched.{Touched, ids_of, is_within, is_touched}
use Rattle.nn_model.specs.WellFormed.{Includes}
use Rattle.nn_postponed.specs.Release.{first_free}

-- a message that is due, about a block that the edit did not touch
abbrev pub due_untouched : Touched → (Message → Bool) → Message → Bool
due_untouched t due m = not (is_touched t m.block) && due m

-- nothing is free about blocks that the edit did not touch
abbrev pub IsQuiet : Touched → (Message → Bool) → List Message → Type 0
IsQuiet t due held = first_free (due_untouched t due) [] held ≡ None

-- the id is no lower than the one that was found
abbrev pub is_reached : Option ℕ → ℕ → Bool
is_reached None id = false
is_reached (Some found) id = nat_le found id

-- The least touched block of at least `from`, as far as messages are held about them: it is no higher than any of these.
pub record IsNextTouched (t : Touched) (from : ℕ) (held : List Message) (next : Option ℕ) : Type 0 where
  pub from_there : IfSome next (λ block. from ≤ block)
  pub touched : IfSome next (λ block. is_touched t block ≡ true)
  pub reached : (m : Message) → Includes held m → from ≤ m.block → is_touched t m.block ≡ true → is_reached next m.block ≡ true

-- ---- How it is found.

-- the ids of the blocks that an edit writes, in file order
abbrev pub written : Namespace → Edit → List ℕ
written n (StartSegment profile) = []
written n EndSegment = []
written n (Mkdir p) = []
written n (Add p r) = []
written n (AddBlock p i stamp) = i ∷ []
written n (UpdateBlocks p bs) = ids_of bs
written n (Close p bs) = ids_of bs
written n (Append p) = ids_of (file_at n p).blocks
written n (Rename s d) = []
written n (Delete p) = []
written n (SetReplication p r) = []
written n (AllocateBlockId i) = []
written n (SetGenstamp stamp) = []

-- the ids ascend
abbrev pub Rises : List ℕ → Type 0
Rises [] = Unit {0}
Rises (id ∷ ids) = (list_any (λ later. nat_lt later id) ids ≡ false) × Rises ids

-- the lower one of two ids, where there are two
abbrev pub lower : Option ℕ → ℕ → ℕ
lower None id = id
lower (Some found) id = if nat_lt id found then id else found

abbrev pub lower_from : ℕ → Option ℕ → ℕ → Option ℕ
lower_from from found id = if nat_le from id then Some (lower found id) else found

-- the lowest of these ids that is at least `from`, or the one that was found before
abbrev pub lowest : ℕ → Option ℕ → List ℕ → Option ℕ
lowest from found [] = found
lowest from found (id ∷ ids) = lowest from (lower_from from found id) ids

abbrev pub earlier : Option ℕ → Option ℕ → Option ℕ
earlier found None = found
earlier found (Some id) = Some (lower found id)

-- the first id of a range that is at least `from`
abbrev pub later : ℕ → ℕ → ℕ
later first from = if nat_lt first from then from else first

-- the least block of the range and of at least `from` that a message is held about
pub record IsNextSkipped (range : Option (ℕ × ℕ)) (from : ℕ) (held : List Message) (next : Option ℕ) : Type 0 where
  pub from_there : IfSome next (λ block. from ≤ block)
  pub within : IfSome next (λ block. is_within range block ≡ true)
  pub reached : (m : Message) → Includes held m → from ≤ m.block → is_within range m.block ≡ true → is_reached next m.block ≡ true
