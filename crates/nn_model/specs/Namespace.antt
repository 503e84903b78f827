-- The namespace: a finite map from paths to directories and files, and what the log has issued.
use Rattle.std.specs.Prelude.{ℕ, Bool, true, false, ◌&&◌, List, [], ◌∷◌, flat_map, Option, Some, None, bytes_eq}
use Rattle.std.specs.Ordering.{nat_cmp}
use Rattle.std.specs.declared.cmp.Ordering.{Ordering}
use Rattle.std.specs.Cmp.Lexicographic.{slice_cmp}
use Rattle.std.specs.FinMap.Entries.{find, put}
use Rattle.nn_types.specs.declared.block.Block.{Block}
use Rattle.nn_types.specs.declared.profile.Profile.{Profile}
use Rattle.nn_types.specs.declared.profile.Profile.TheVariants.{One}
use Rattle.nn_types.specs.Limits.{last_reserved_block, last_reserved_stamp}
use Rattle.nn_model.specs.declared.form.Form.{Form}
use Rattle.nn_model.specs.declared.form.Form.TheVariants.{Dir, File}
use Rattle.nn_model.specs.declared.form.FileRow.{FileRow}

-- a path: its names from the root down, each a list of bytes
abbrev pub Path : Type 0
Path = List (List ℕ)

-- paths are ordered as lists of names, names by bytes
abbrev pub path_cmp : Path → Path → Ordering
path_cmp = slice_cmp (slice_cmp nat_cmp)

-- what the log has issued: the last block id, the last generation stamp, the ids that no file has got yet, and its highest profile
pub record Issued : Type 0 where
  pub last_block : ℕ
  pub last_stamp : ℕ
  pub awaiting : List ℕ  -- ascending
  pub profile : Profile  -- that of the last start mark, since none is lower than the one before

pub record Namespace : Type 0 where
  pub rows : List (Path × Form)  -- one for each path, in path order
  pub issued : Issued

-- what is at a path
abbrev pub lookup : Namespace → Path → Option Form
lookup n p = find path_cmp p n.rows

-- the same namespace with this at a path
abbrev pub with_row : Namespace → Path → Form → Namespace
with_row n p form = record n { rows = put path_cmp p form n.rows }

-- the second path is the first one, or lies below it
abbrev pub begins_with : Path → Path → Bool
begins_with [] p = true
begins_with (name ∷ s) [] = false
begins_with (name ∷ s) (other ∷ p) = bytes_eq name other && begins_with s p

-- a file with no blocks, for definitions that ask for the file of a path that has none
abbrev pub no_file : FileRow
no_file = record { replication = 0; closed = false; blocks = [] }

abbrev pub file_or_none : Option Form → FileRow
file_or_none (Some (File file)) = file
file_or_none (Some Dir) = no_file
file_or_none None = no_file

-- the file at a path
abbrev pub file_at : Namespace → Path → FileRow
file_at n p = file_or_none (lookup n p)

abbrev pub blocks_of : Form → List Block
blocks_of Dir = []
blocks_of (File file) = file.blocks

-- the blocks of all files, in path order and then in file order
abbrev pub all_blocks : Namespace → List Block
all_blocks n = flat_map (λ row. blocks_of row.1) n.rows

-- the last id before the first one that a log issues
abbrev pub no_block : ℕ
no_block = last_reserved_block

-- the last generation stamp before the first one that a log issues
abbrev pub no_stamp : ℕ
no_stamp = last_reserved_stamp

-- the namespace before the first edit: the root alone
abbrev pub root_alone : Namespace
root_alone = record { rows = ([], Dir) ∷ []; issued = record { last_block = no_block; last_stamp = no_stamp; awaiting = []; profile = One } }
