-- Where the code finds the cell of a DataNode.
use Rattle.std.specs.Prelude.{ℕ, suc, Bool, false, ◌==◌, nat_lt, List, [], ◌∷◌, if◌then◌else◌}
use Rattle.nn_replicas.specs.declared.entry.Cell.{Cell}

-- how many first cells are of DataNodes below this one
abbrev pub place : ℕ → List (ℕ × Cell) → ℕ
place dn [] = 0
place dn (c ∷ cells) = if nat_lt c.0 dn then suc (place dn cells) else 0

-- the DataNode has a cell, where the cells are in order
abbrev pub is_here : ℕ → List (ℕ × Cell) → Bool
is_here dn [] = false
is_here dn (c ∷ cells) = if nat_lt c.0 dn then is_here dn cells else (c.0 == dn)
