-- Rows from a path on, and how deep rows are.
use Rattle.std.specs.Prelude.{◌≡◌, ℕ, List, [], ◌∷◌, map, codes, refl}
use Rattle.nn_model.specs.declared.form.Form.{Form}
use Rattle.nn_model.specs.declared.form.Form.TheVariants.{Dir}
use Rattle.nn_model.specs.Namespace.{Path}
use Rattle.nn_tree.specs.Rows.{extent_of, rows_from}

abbrev a : List ℕ
a = codes "a"

abbrev b : List ℕ
b = codes "b"

-- `/`, `/a`, `/a/b`, `/a-`, `/b`: a path comes before those below it, and these before a longer name
abbrev paths : List Path
paths = [] ∷ (a ∷ []) ∷ (a ∷ b ∷ []) ∷ (codes "a-" ∷ []) ∷ (b ∷ []) ∷ []

abbrev rows : List (Path × Form)
rows = map (λ p. (p, Dir)) paths

abbrev from : Path → List Path
from p = map (λ row. row.0) (rows_from p rows)

from_the_root : from [] ≡ paths
from_the_root = refl

-- the path itself is the first
from_a_path : from (a ∷ b ∷ []) ≡ (a ∷ b ∷ []) ∷ (codes "a-" ∷ []) ∷ (b ∷ []) ∷ []
from_a_path = refl

-- nothing has to stand there
from_no_path : from (a ∷ codes "c" ∷ []) ≡ (codes "a-" ∷ []) ∷ (b ∷ []) ∷ []
from_no_path = refl

below_no_path : from (codes "a!" ∷ b ∷ []) ≡ (codes "a-" ∷ []) ∷ (b ∷ []) ∷ []
below_no_path = refl

from_behind_all : from (b ∷ a ∷ []) ≡ []
from_behind_all = refl

-- `/a/b` has two names
extents : map extent_of ([] ∷ (([], Dir) ∷ []) ∷ rows ∷ []) ≡ record { paths = 0; depth = 0 } ∷ record { paths = 1; depth = 0 } ∷ record { paths = 5; depth = 2 } ∷ []
extents = refl
