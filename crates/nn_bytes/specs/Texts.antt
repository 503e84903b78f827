-- What is known of a line's bytes as a text.
use Rattle.std.specs.Prelude.{◌≡◌, ℕ, List, true}
use Rattle.std.specs.Str.{IsUtf8}
use Rattle.nn_bytes.specs.Runs.{is_unescaped_line}
use Rattle.nn_bytes.specs.declared.unescaped.LineText.{LineText}
use Rattle.nn_bytes.specs.declared.unescaped.LineText.TheVariants.{Unescaped, NotUtf8, NotAsked}

-- It is so of this line.
abbrev pub IsKnownOf : List ℕ → LineText → Type 0
IsKnownOf line (Unescaped text) = (text.now ≡ line) × (is_unescaped_line line ≡ true) × IsUtf8 line
IsKnownOf line NotUtf8 = ¬ (IsUtf8 line)
IsKnownOf line NotAsked = Unit {0}
