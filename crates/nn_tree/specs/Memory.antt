-- Which edits ask for memory.
use Rattle.std.specs.Prelude.{Bool, true, false}
use Rattle.nn_types.specs.declared.edit.Edit.{Edit}
use Rattle.nn_types.specs.declared.edit.Edit.TheVariants.{StartSegment, EndSegment, Mkdir, Add, AddBlock, UpdateBlocks, Close, Append, Rename, Delete, SetReplication, AllocateBlockId, SetGenstamp}

-- those that take none change what is there
abbrev pub takes_memory : Edit → Bool
takes_memory (StartSegment profile) = false
takes_memory EndSegment = false
takes_memory (Mkdir p) = true
takes_memory (Add p r) = true
takes_memory (AddBlock p i stamp) = true
takes_memory (UpdateBlocks p bs) = true
takes_memory (Close p bs) = true
takes_memory (Append p) = true
takes_memory (Rename s d) = true
takes_memory (Delete p) = true
takes_memory (SetReplication p r) = false
takes_memory (AllocateBlockId i) = true
takes_memory (SetGenstamp stamp) = false
