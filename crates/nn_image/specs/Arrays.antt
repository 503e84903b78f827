-- What is kept of the arrays of an image's lines. No public contract cites these.
use Rattle.std.specs.Prelude.{ℕ, ◌+◌, List, nat_lt, if◌then◌else◌, Option, Some, None, codes}
use Rattle.serde_json.specs.Data.{Data}
use Rattle.serde_json.specs.Find.{as_array}
use Rattle.nn_types.specs.declared.block.Block.{Block}
use Rattle.nn_model.specs.Namespace.{no_block}
use Rattle.nn_plain.specs.Spelling.{whole_at, whole_of}
use Rattle.nn_image.specs.Reading.{◌>>=◌, block_of, gathered, limited}
use Rattle.nn_image.specs.declared.arrays.BlockMembers.{BlockMembers}

-- the numbers of a block
pub record BlockParts : Type 0 where
  pub id : Option ℕ
  pub stamp : Option ℕ
  pub len : Option ℕ

abbrev pub block_parts : Data → BlockParts
block_parts d = record { id = whole_at (codes "id") d; stamp = whole_at (codes "gen") d; len = whole_at (codes "len") d }

abbrev pub seen_block : BlockMembers → BlockParts
seen_block m = record { id = m.id; stamp = m.stamp; len = m.len }

unfoldable pub block_from : BlockParts → Option Block
block_from p = do
  id ← limited p.id
  stamp ← limited p.stamp
  len ← limited p.len
  Some (record { id = id; stamp = stamp; len = len })

-- the blocks that a value is
abbrev pub block_list : Data → Option (List Block)
block_list d = as_array d >>= gathered block_of

-- an id that a block can have: no other one awaits
unfoldable pub awaiting_from : Option ℕ → Option ℕ
awaiting_from n = limited n >>= λ id. if nat_lt id (no_block + 1) then None else Some id

abbrev pub awaiting_of : Data → Option ℕ
awaiting_of d = awaiting_from (whole_of d)

-- the ids that a value is
abbrev pub ids_in : Data → Option (List ℕ)
ids_in d = as_array d >>= gathered awaiting_of
