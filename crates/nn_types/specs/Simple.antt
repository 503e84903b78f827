-- Texts of paths in the common form.
use Rattle.std.specs.Prelude.{ℕ, Bool, ◌&&◌, ◌||◌, ◌==◌}
use Rattle.nn_types.specs.Path.{slash, colon}

abbrev pub dot : ℕ
dot = 46

-- a byte that no such text has before this one: a colon, or the slash before an empty name or one that begins with a dot
abbrev pub is_fault : ℕ → ℕ → Bool
is_fault b next = (b == colon) || ((b == slash) && ((next == slash) || (next == dot)))
