-- What an edit touched, as the definitions say it.
use Rattle.std.specs.Prelude.{ℕ}
use Rattle.nn_types.specs.declared.edit.Edit.{Edit}
use Rattle.nn_types.specs.declared.edit.Edit.TheVariants.{StartSegment, EndSegment, Mkdir, Add, AddBlock, UpdateBlocks, Close, Append, Rename, Delete}
use Rattle.nn_types.specs.declared.edit.Edit.TheVariants.{SetReplication, AllocateBlockId, SetGenstamp}
use Rattle.nn_model.specs.Namespace.{Namespace, file_at}
use Rattle.nn_model.specs.Touched.{Touched}
use Rattle.nn_tree.specs.declared.touched.Touched.{Touched as Told}

-- the fields of the code's record, as those of the definition's
abbrev pub touched_of : Told → Touched
touched_of t = record { changed = t.changed.items; retired = t.retired.items; skipped = t.skipped }

-- the replication of the file whose blocks an edit writes, 0 where it writes none
abbrev pub file_replication : Namespace → Edit → ℕ
file_replication n (AddBlock p i stamp) = (file_at n p).replication
file_replication n (UpdateBlocks p bs) = (file_at n p).replication
file_replication n (Close p bs) = (file_at n p).replication
file_replication n (Append p) = (file_at n p).replication
file_replication n (StartSegment profile) = 0
file_replication n EndSegment = 0
file_replication n (Mkdir p) = 0
file_replication n (Add p r) = 0
file_replication n (Rename s d) = 0
file_replication n (Delete p) = 0
file_replication n (SetReplication p r) = 0
file_replication n (AllocateBlockId i) = 0
file_replication n (SetGenstamp stamp) = 0
