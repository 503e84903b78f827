-- Lines and fields that are made in one room. For private clauses.
use Rattle.std.specs.Prelude.{ℕ, List, [], ◌∷◌, ◌++◌, codes, decimal}
use Rattle.nn_bytes.specs.Lines.{line_feed}
use Rattle.nn_types.specs.declared.report.Kind.{Kind}
use Rattle.nn_types.specs.declared.replica.Class.{Class}
use Rattle.nn_types.specs.declared.replica.Replica.{Replica}
use Rattle.nn_types.specs.Words.{kind_text, class_text}

-- a space and a text
abbrev pub spaced : List ℕ → List ℕ
spaced text = codes " " ++ text

-- the last two words of a replica's line
abbrev pub line_end : Kind → Class → List ℕ
line_end kind class = spaced (kind_text kind) ++ spaced (class_text class) ++ line_feed ∷ []

-- the line of a replica of this class
abbrev pub classed_line : ℕ → ℕ → Replica → Class → List ℕ
classed_line id dn r class =
    codes "replica " ++ decimal id ++ codes " " ++ decimal dn ++ codes " " ++ decimal r.stamp ++ codes " " ++ decimal r.len
    ++ codes " " ++ kind_text r.kind ++ codes " " ++ class_text class ++ line_feed ∷ []
