-- What a service answers of its words.
use Rattle.std.specs.Prelude.{ℕ, List, [], ◌∷◌, ◌++◌, flat_map, codes}
use Rattle.nn_bytes.specs.Lines.{line_feed}

abbrev pub help_lines : List (List ℕ)
help_lines =
    codes "sync" ∷ codes "status" ∷ codes "held [N]" ∷ codes "unsafe [N]" ∷ codes "block ID" ∷ codes "replicas ID" ∷ codes "path \"TEXT\"" ∷ codes "tables" ∷ codes "checkpoint"
    ∷ codes "gone D" ∷ codes "seen T" ∷ codes "epoch E" ∷ codes "promote T [epoch E] [lost]" ∷ codes "help" ∷ []

-- the words, a line each
abbrev pub help_text : List ℕ
help_text = flat_map (λ l. l ++ line_feed ∷ []) help_lines

-- of a line that begins as words do, and is none
abbrev pub unknown_text : List ℕ
unknown_text = codes "unknown" ++ line_feed ∷ []
