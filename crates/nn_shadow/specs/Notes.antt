-- What a DataNode has, and what was noted since and is not sorted into it yet.
use Rattle.std.specs.Prelude.{ℕ, ◌+◌, ◌/◌, ◌≤◌, Bool, false, ◌&&◌, ◌||◌, T, List, [], ◌∷◌, ◌++◌, Option, nat_lt, ◌==◌, if◌then◌else◌}
use Rattle.std.specs.Map.{remove_entry}
use Rattle.std.specs.BTreeMap.{insert_entry, is_at}
use Rattle.std.specs.FinMap.Entries.{is_sorted}
use Rattle.std.specs.Ordering.{nat_cmp}
use Rattle.nn_types.specs.declared.report.Message.{Message}
use Rattle.nn_model.specs.Items.{NodeState, is_deleted}

-- what a DataNode has, whether one more note has its place, and whether all notes are sorted in
pub record Notes : Type 0 where
  pub having : NodeState
  pub room : Bool
  pub settled : Bool

abbrev pub node_state_of : Notes → NodeState
node_state_of n = n.having

-- the number under which an item is noted: 0 for a delete
abbrev pub number_noted : Message → ℕ
number_noted m = if is_deleted m.kind then 0 else m.number

-- The blocks with one more note: a block and the number of the last item about it, 0 where that is a delete.
abbrev pub with_note : List (ℕ × ℕ) → ℕ × ℕ → List (ℕ × ℕ)
with_note has note = if note.1 == 0 then remove_entry (is_at (nat_cmp note.0)) has else insert_entry nat_cmp has note.0 note.1

-- with notes, one after another
abbrev pub with_notes : List (ℕ × ℕ) → List (ℕ × ℕ) → List (ℕ × ℕ)
with_notes has [] = has
with_notes has (note ∷ told) = with_notes (with_note has note) told

-- how many notes may wait beside so many blocks
abbrev pub most_told : ℕ → ℕ
most_told blocks = blocks / 8 + 256

-- as the parts of the code show it: the blocks, the notes, how many these are and may be
abbrev pub notes_of : List (ℕ × ℕ) → List (ℕ × ℕ) → Option ℕ → ℕ → ℕ → ℕ → Notes
notes_of has told begun blocks notes capacity = record {
  having = record { has = with_notes has told; begun = begun };
  room = nat_lt notes capacity && nat_lt notes (most_told blocks);
  settled = notes == 0;
}

-- the blocks ascend, and few notes wait
pub record IsTidy (has : List (ℕ × ℕ)) (blocks notes : ℕ) : Type 0 where
  pub sorted : T (is_sorted nat_cmp has)
  pub few : notes ≤ most_told blocks

-- ---- The notes in the order of their blocks are taken in from the front.

-- the blocks before this one, and the others
abbrev pub before : ℕ → List (ℕ × ℕ) → List (ℕ × ℕ)
before block [] = []
before block (had ∷ has) = if nat_lt had.0 block then had ∷ before block has else []

abbrev pub onward : ℕ → List (ℕ × ℕ) → List (ℕ × ℕ)
onward block [] = []
onward block (had ∷ has) = if nat_lt had.0 block then onward block has else had ∷ has

-- without this block, if it is the first one
abbrev pub past : ℕ → List (ℕ × ℕ) → List (ℕ × ℕ)
past block [] = []
past block (had ∷ has) = if had.0 == block then has else had ∷ has

-- whether the next note is about this block too
abbrev pub is_next : ℕ → List (ℕ × ℕ) → Bool
is_next block [] = false
is_next block (note ∷ told) = note.0 == block

-- what is left of a note: nothing, where it is a delete or the next one is about its block too
abbrev pub note_left : ℕ × ℕ → List (ℕ × ℕ) → List (ℕ × ℕ)
note_left note told = if (note.1 == 0 || is_next note.0 told) then [] else note ∷ []

abbrev pub merged : List (ℕ × ℕ) → List (ℕ × ℕ) → List (ℕ × ℕ)
merged has [] = has
merged has (note ∷ told) = before note.0 has ++ (note_left note told ++ merged (past note.0 (onward note.0 has)) told)
