-- Which blocks the types can hold.
use Rattle.std.specs.Prelude.{List, [], ◌∷◌}
use Rattle.nn_types.specs.declared.block.Block.{Block}
use Rattle.nn_types.specs.Number.{IsNumber}

-- the id, the generation stamp and the length of a block are numbers of the formats
abbrev pub IsBlock : Block → Type 0
IsBlock b = IsNumber b.id × IsNumber b.stamp × IsNumber b.len

abbrev pub AreBlocks : List Block → Type 0
AreBlocks [] = Unit {0}
AreBlocks (b ∷ bs) = IsBlock b × AreBlocks bs
