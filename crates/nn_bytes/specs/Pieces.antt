-- A text as what stands between its line feeds.
use Rattle.std.specs.Prelude.{ℕ, ◌==◌, List, [], ◌∷◌, ◌++◌, flat_map, Bool, not}
use Rattle.std.specs.List.{list_all, slice_split}
use Rattle.nn_bytes.specs.Lines.{line_feed}

-- no byte of the line is a line feed
abbrev pub is_unbroken : List ℕ → Bool
is_unbroken line = list_all (λ b. not (b == line_feed)) line

-- the bytes of lines, with one line feed after each
abbrev pub joined_lines : List (List ℕ) → List ℕ
joined_lines lines = flat_map (λ line. line ++ line_feed ∷ []) lines

-- what stands between the line feeds: each piece is a line, but the last, which is behind them
abbrev pub pieces : List ℕ → List (List ℕ)
pieces bytes = slice_split (λ b. b == line_feed) bytes
