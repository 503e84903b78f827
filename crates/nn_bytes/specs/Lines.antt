-- The byte that ends a line, and lines that say nothing.
use Rattle.std.specs.Prelude.{ℕ, ◌==◌, ◌||◌, List, Bool}
use Rattle.std.specs.List.{list_all}

abbrev pub line_feed : ℕ
line_feed = 10

-- a space, a tab or a carriage return
abbrev pub is_blank_byte : ℕ → Bool
is_blank_byte b = b == 32 || b == 9 || b == 13

abbrev pub is_blank : List ℕ → Bool
is_blank line = list_all is_blank_byte line
