-- The text of an image: lines of compact JSON, each ended by a line feed.
use Rattle.std.specs.Prelude.{ℕ, ◌-◌, List, [], ◌∷◌, ◌++◌, drop, length, replicate, codes, decimal}
use Rattle.std.specs.List.{flat_map}
use Rattle.serde_json.specs.Data.{Data, boolean, number, unsigned, string, array, object, Items, no_items, item, member, no_members}
use Rattle.serde_json.specs.Written.{compact_text}
use Rattle.nn_bytes.specs.Lines.{line_feed}
use Rattle.nn_types.specs.Profile.{profile_number}
use Rattle.nn_types.specs.Path.{path_text}
use Rattle.nn_types.specs.declared.block.Block.{Block}
use Rattle.nn_model.specs.declared.form.Form.{Form}
use Rattle.nn_model.specs.declared.form.Form.TheVariants.{Dir, File}
use Rattle.nn_model.specs.Namespace.{Path, Namespace}

abbrev pub block_value : Block → Data
block_value b = object (member (codes "gen") (number (unsigned b.stamp)) (member (codes "id") (number (unsigned b.id)) (member (codes "len") (number (unsigned b.len)) no_members)))

abbrev pub block_items : List Block → Items
block_items [] = no_items
block_items (b ∷ bs) = item (block_value b) (block_items bs)

abbrev pub number_items : List ℕ → Items
number_items [] = no_items
number_items (n ∷ ns) = item (number (unsigned n)) (number_items ns)

unfoldable pub head_data : ℕ → ℕ → List ℕ → ℕ → ℕ → Data
head_data last_block last_stamp awaiting profile txid =
    object (member (codes "awaiting") (array (number_items awaiting))
    (member (codes "image") (string (codes "hdfs-standby"))
    (member (codes "last_block") (number (unsigned last_block))
    (member (codes "last_gen") (number (unsigned last_stamp))
    (member (codes "profile") (number (unsigned profile))
    (member (codes "txid") (number (unsigned txid))
    (member (codes "version") (number (unsigned 2)) no_members)))))))

abbrev pub header_data : Namespace → ℕ → Data
header_data n txid = head_data n.issued.last_block n.issued.last_stamp n.issued.awaiting (profile_number n.issued.profile) txid

unfoldable pub form_data : Path → Form → Data
form_data p Dir = object (member (codes "path") (string (path_text p)) (member (codes "type") (string (codes "dir")) no_members))
form_data p (File file) =
    object (member (codes "blocks") (array (block_items file.blocks))
    (member (codes "closed") (boolean file.closed)
    (member (codes "path") (string (path_text p))
    (member (codes "replication") (number (unsigned file.replication))
    (member (codes "type") (string (codes "file")) no_members)))))

abbrev pub row_data : Path × Form → Data
row_data row = form_data row.0 row.1

unfoldable pub end_data : ℕ → Data
end_data count = object (member (codes "end") (number (unsigned count)) no_members)

-- the line of a value
abbrev pub value_line : Data → List ℕ
value_line d = compact_text d ++ line_feed ∷ []

abbrev pub row_lines : List (Path × Form) → List ℕ
row_lines rows = flat_map (λ row. value_line (row_data row)) rows

-- each path except the root, which is the first, and the number of those paths
abbrev pub body_text : Namespace → List ℕ
body_text n = row_lines (drop 1 n.rows) ++ value_line (end_data (length n.rows - 1))

unfoldable pub image_text : Namespace → ℕ → List ℕ
image_text n txid = value_line (header_data n txid) ++ body_text n

-- `fsimage_` and the txid in 19 digits
unfoldable pub image_file_name : ℕ → List ℕ
image_file_name txid = codes "fsimage_" ++ (replicate (19 - length (decimal txid)) 48 ++ decimal txid)
