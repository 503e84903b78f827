-- How much is left to do of a tree that is taken apart.
use Rattle.std.specs.Prelude.{ℕ, zero, suc, ◌+◌, List, [], Option, Some, None}
use Rattle.nn_model.specs.declared.form.Form.{Form}
use Rattle.nn_model.specs.Namespace.{Path}
use Rattle.nn_tree.specs.Flat.{below}

-- the rows of what is left of a directory
abbrev pub rows_left : Option (List (List ℕ × List (Path × Form))) → List (Path × Form)
rows_left None = []
rows_left (Some m) = below m

-- 1, 2, and so on up to n, together
abbrev pub up_to : ℕ → ℕ
up_to zero = 0
up_to (suc n) = suc n + up_to n

-- Less is left where there are fewer rows, and where there are as many and fewer of them are in the tree at hand.
abbrev pub work : ℕ → ℕ → ℕ
work here rest = up_to (here + rest) + here
