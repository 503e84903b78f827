-- Which bytes a run has.
use Rattle.std.specs.Prelude.{◌≡◌, ◌≤◌, ℕ, ◌-◌, List, length, take, Bool, true, not, nat_le, nat_lt, ◌&&◌, ◌==◌}
use Rattle.std.specs.List.{list_all}

-- A byte that is not this one.
abbrev pub is_other : ℕ → ℕ → Bool
is_other a x = not (x == a)

-- A byte that is none of these two.
abbrev pub is_neither : ℕ → ℕ → ℕ → Bool
is_neither a b x = not (x == a) && not (x == b)

-- Printable ASCII, and no backslash.
abbrev pub is_printable_byte : ℕ → Bool
is_printable_byte b = nat_le 32 b && nat_lt b 127 && not (b == 92)

abbrev pub is_printable : List ℕ → Bool
is_printable text = list_all is_printable_byte text

-- The first so many bytes are.
abbrev pub IsPrintableTo : ℕ → List ℕ → Type 0
IsPrintableTo n text = (n ≤ length text) × (is_printable (take n text) ≡ true)

-- No control character, and no backslash. So it needs no escape in JSON, if it is no quote.
abbrev pub is_unescaped_byte : ℕ → Bool
is_unescaped_byte b = nat_le 32 b && not (b == 92)

abbrev pub is_unescaped : List ℕ → Bool
is_unescaped text = list_all is_unescaped_byte text

-- The same of a line. Its last byte may be any: it is no byte of a text in quotes.
abbrev pub is_unescaped_line : List ℕ → Bool
is_unescaped_line line = is_unescaped (take (length line - 1) line)

-- A byte that does not pass a test.
abbrev pub fails : (ℕ → Bool) → ℕ → Bool
fails p b = not (p b)
