-- What the program prints of a namespace: a line for the last transaction, and a line for each path.
use Rattle.std.specs.Prelude.{ℕ, Bool, true, false, List, [], ◌∷◌, ◌++◌, flat_map, codes, decimal}
use Rattle.serde_json.specs.Data.{string}
use Rattle.serde_json.specs.Written.{compact_text}
use Rattle.nn_bytes.specs.Lines.{line_feed}
use Rattle.nn_types.specs.Path.{path_text}
use Rattle.nn_types.specs.declared.block.Block.{Block}
use Rattle.nn_model.specs.declared.form.Form.{Form}
use Rattle.nn_model.specs.declared.form.Form.TheVariants.{Dir, File}
use Rattle.nn_model.specs.Namespace.{Path, Namespace}

-- a path is written as the JSON text of its spelling
abbrev pub path_json : Path → List ℕ
path_json p = compact_text (string (path_text p))

-- a block: its id, its generation stamp and its length
abbrev pub block_text : Block → List ℕ
block_text b = codes " " ++ decimal b.id ++ codes ":" ++ decimal b.stamp ++ codes ":" ++ decimal b.len

-- whether a file is complete
abbrev pub state_text : Bool → List ℕ
state_text true = codes "closed"
state_text false = codes "open"

-- the line of a path
abbrev pub path_line : Path → Form → List ℕ
path_line p Dir = codes "dir " ++ path_json p ++ line_feed ∷ []
path_line p (File file) =
    codes "file " ++ path_json p ++ codes " " ++ decimal file.replication ++ codes " " ++ state_text file.closed
    ++ flat_map block_text file.blocks ++ line_feed ∷ []

abbrev pub row_line : Path × Form → List ℕ
row_line row = path_line row.0 row.1

-- the last transaction, and then these rows
abbrev pub listing_of : ℕ → List (Path × Form) → List ℕ
listing_of last rows = codes "txid " ++ decimal last ++ line_feed ∷ [] ++ flat_map row_line rows

-- the last transaction, and then each path in path order
abbrev pub listing_text : ℕ → Namespace → List ℕ
listing_text last n = listing_of last n.rows
