-- The lines of a segment's bytes.
use Rattle.std.specs.Prelude.{◌≡◌, ℕ, ◌==◌, List, [], ◌∷◌, Bool, true, false, if◌then◌else◌, Result, map}
use Rattle.std.specs.List.{onto_first, list_all}
use Rattle.nn_edits.specs.declared.fault.LineFault.{LineFault}
use Rattle.nn_types.specs.declared.tx.Tx.{Tx}
use Rattle.nn_edits.specs.Reading.{edit_of_line}
use Rattle.nn_bytes.specs.Lines.{line_feed}
use Rattle.nn_bytes.specs.Pieces.{is_unbroken, joined_lines}

-- the lines, each ended by a line feed, which the last may lack
abbrev pub lines_of : List ℕ → List (List ℕ)
lines_of [] = []
lines_of (b ∷ bytes) = if b == line_feed then [] ∷ lines_of bytes else onto_first b (lines_of bytes)

-- joined lines are cut back into the same lines
abbrev pub JoinedAreCutBack : Type 0
JoinedAreCutBack = (lines : List (List ℕ)) → list_all is_unbroken lines ≡ true → lines_of (joined_lines lines) ≡ lines

-- whether the last byte is a line feed
abbrev pub is_ended : List ℕ → Bool
is_ended [] = false
is_ended (b ∷ []) = b == line_feed
is_ended (b ∷ c ∷ bytes) = is_ended (c ∷ bytes)

-- what each line is read as
unfoldable pub reads_of : List ℕ → List (Result Tx LineFault)
reads_of bytes = map edit_of_line (lines_of bytes)
