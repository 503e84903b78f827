-- Which edits ask for memory.
use Rattle.std.specs.Prelude.{◌≡◌, true, false, [], ◌∷◌, map, refl}
use Rattle.nn_types.specs.declared.profile.Profile.TheVariants.{One}
use Rattle.nn_types.specs.declared.edit.Edit.TheVariants.{StartSegment, EndSegment, Mkdir, Add, AddBlock, UpdateBlocks, Close, Rename, Delete, SetReplication, AllocateBlockId, SetGenstamp}
use Rattle.nn_tree.specs.Memory.{takes_memory}

asks : map takes_memory (Mkdir [] ∷ Add [] 1 ∷ AddBlock [] 1 1 ∷ UpdateBlocks [] [] ∷ Close [] [] ∷ Rename [] [] ∷ Delete [] ∷ AllocateBlockId 1 ∷ [])
    ≡ true ∷ true ∷ true ∷ true ∷ true ∷ true ∷ true ∷ true ∷ []
asks = refl

asks_not : map takes_memory (StartSegment One ∷ EndSegment ∷ SetReplication [] 1 ∷ SetGenstamp 1 ∷ []) ≡ false ∷ false ∷ false ∷ false ∷ []
asks_not = refl
